pub mod Compound
pub mod Results
pub mod Shown
