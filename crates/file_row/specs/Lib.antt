pub mod Formed
pub mod Held
