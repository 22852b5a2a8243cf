pub mod Bytes
pub mod Pieces
pub mod Starts
pub mod Texts
pub mod Steps
pub mod Laws
