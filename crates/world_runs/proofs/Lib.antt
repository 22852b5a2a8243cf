pub mod Alone
mod Beginning
mod Drawing
mod Given
pub mod Journals
pub mod KnownAtoms
pub mod Placing
pub mod Valid
