pub mod Failures
pub mod Fields
