pub mod Block
pub mod Live
pub mod Twin
pub mod Full
pub mod Small
