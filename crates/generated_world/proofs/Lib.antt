mod Drawing
pub mod Fits
