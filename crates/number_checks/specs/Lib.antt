pub mod Grounds
pub mod Passed
