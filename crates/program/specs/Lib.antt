pub mod Program
