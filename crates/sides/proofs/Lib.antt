pub mod Ends
pub mod Gaps
pub mod Stored
