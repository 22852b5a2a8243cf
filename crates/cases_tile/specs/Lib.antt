pub mod Alone
pub mod Pairs
