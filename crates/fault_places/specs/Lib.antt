pub mod Common
pub mod Raw
pub mod Resolved
pub mod Faults
pub mod Heads
pub mod Standing
