pub mod Put
pub mod Numbers
pub mod Laid
