pub mod Calls
pub mod Lengths
pub mod Unchanged
