pub mod Machine
pub mod Matching
pub mod Running
pub mod Ends
pub mod Rows
