pub mod Lists
pub mod Places
pub mod Filling
