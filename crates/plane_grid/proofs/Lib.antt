pub mod Blanks
pub mod BlankGrid
pub mod OneGrid
