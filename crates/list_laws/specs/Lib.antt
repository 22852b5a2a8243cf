pub mod Booleans
pub mod Options
