pub mod Counting
pub mod Endings
pub mod Ticks
pub mod Works
