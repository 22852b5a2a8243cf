pub mod Accepted
pub mod Calls
pub mod Data
pub mod Example
pub mod Meanings
