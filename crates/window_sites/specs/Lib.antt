pub mod Inner
pub mod Sites
pub mod Window
