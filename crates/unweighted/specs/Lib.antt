pub mod Unweighted
pub mod Agree
pub mod Low
pub mod Proved
