pub mod Cleared
pub mod Corners
pub mod Places
pub mod Replayed
pub mod Shifts
pub mod Windows
