pub mod Parts
pub mod Roots
pub mod Step
