pub mod Checked
pub mod Until
pub mod Outcomes
