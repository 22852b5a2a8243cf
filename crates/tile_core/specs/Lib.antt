pub mod Values
pub mod Turns
pub mod Clocks
pub mod Underway
pub mod Steps
pub mod Boards
pub mod Kept
