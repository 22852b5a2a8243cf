pub mod Plane
pub mod Neighbours
pub mod Edges
pub mod Laws
pub mod Spans
pub mod Tables
pub mod Zones
