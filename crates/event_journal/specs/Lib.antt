pub mod Accounts
pub mod Keys
pub mod Logs
pub mod Merged
pub mod Serial
pub mod Tournaments
pub mod Walks
