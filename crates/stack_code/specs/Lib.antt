pub mod Sorts
pub mod Machine
pub mod Valid
pub mod Shapes
pub mod KindLists
pub mod Text
pub mod Laws
