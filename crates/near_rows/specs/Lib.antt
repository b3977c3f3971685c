pub mod Near
pub mod Live
pub mod Small
pub mod Candidate
