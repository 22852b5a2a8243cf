pub mod Scripts
pub mod OnBoard
pub mod Ready
pub mod Starts
