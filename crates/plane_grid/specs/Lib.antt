pub mod PlaneGrids
pub mod BlankGrid
