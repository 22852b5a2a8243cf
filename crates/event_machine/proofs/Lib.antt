pub mod Fits
pub mod OperandStacks
pub mod Slots
pub mod Backs
pub mod Running
pub mod Runs
