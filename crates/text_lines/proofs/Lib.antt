pub mod Cuts
pub mod Digits
pub mod Hex
pub mod Joined
pub mod Printed
pub mod Takes
