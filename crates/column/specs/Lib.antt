pub mod Column
pub mod Scan
