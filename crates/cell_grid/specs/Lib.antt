pub mod Calm
pub mod Grid
pub mod Inner
pub mod Known
pub mod Records
pub mod Shut
pub mod Steps
pub mod Tried
