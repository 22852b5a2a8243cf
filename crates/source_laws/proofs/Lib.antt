pub mod Widths
pub mod Halves
pub mod Entries
pub mod Locals
pub mod Paths
pub mod Exprs
pub mod Bodies
pub mod Classes
pub mod Programs
mod Example
