pub mod Side
pub mod After
