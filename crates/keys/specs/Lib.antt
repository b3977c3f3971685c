pub mod Held
pub mod Keys
pub mod Places
