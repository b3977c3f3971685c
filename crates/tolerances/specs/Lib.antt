pub mod Counted
pub mod Reach
