pub mod Depth
pub mod Narrow
pub mod Told
