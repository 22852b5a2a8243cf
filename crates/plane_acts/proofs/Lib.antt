pub mod Done
pub mod Found
pub mod Sites
pub mod Steps
