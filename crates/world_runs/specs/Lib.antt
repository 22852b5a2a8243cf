pub mod Fresh
pub mod Known
pub mod OneOrder
pub mod OneTile
pub mod Orders
pub mod Start
pub mod Turns
pub mod Worlds
