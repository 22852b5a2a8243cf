pub mod ByTile
pub mod Clocks
pub mod Entries
pub mod Excuses
pub mod Marks
pub mod Passing
pub mod Verdicts
