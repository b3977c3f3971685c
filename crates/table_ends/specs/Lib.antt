pub mod BothRead
