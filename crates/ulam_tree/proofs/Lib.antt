pub mod Means
pub mod RawRows
pub mod ResolvedRows
pub mod TypedRows
pub mod Ways
