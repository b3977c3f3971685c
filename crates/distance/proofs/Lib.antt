pub mod Gap
pub mod Square
pub mod Moved
