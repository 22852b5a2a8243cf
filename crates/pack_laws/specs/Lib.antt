pub mod Example
pub mod Packed
pub mod PackedFile
