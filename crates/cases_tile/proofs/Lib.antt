pub mod Plane
pub mod Pairs
