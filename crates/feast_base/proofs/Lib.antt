pub mod Appending
pub mod Digits
pub mod Stages
pub mod Streams
