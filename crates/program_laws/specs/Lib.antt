pub mod Depths
pub mod Whole
