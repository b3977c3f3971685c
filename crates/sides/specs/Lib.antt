pub mod Sides
pub mod SideLaws
