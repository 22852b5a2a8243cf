pub mod Words
pub mod Attempts
pub mod Plans
pub mod Kept
