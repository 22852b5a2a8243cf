pub mod Journals
pub mod Keys
pub mod Merging
pub mod Splitting
pub mod Tournaments
pub mod WalkSteps
