pub mod Acts
pub mod Plans
pub mod Driven
