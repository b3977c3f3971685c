pub mod Shown
pub mod ListShown
