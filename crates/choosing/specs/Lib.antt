pub mod Ready
pub mod Due
