pub mod Uses
pub mod FinishedBest
pub mod Worked
pub mod Edge
