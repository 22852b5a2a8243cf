pub mod Places
pub mod Plans
mod Powers
