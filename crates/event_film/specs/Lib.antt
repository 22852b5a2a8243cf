pub mod Films
pub mod Marks
pub mod Packed
pub mod Rewinding
