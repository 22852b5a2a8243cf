pub mod Comparing
pub mod Judging
