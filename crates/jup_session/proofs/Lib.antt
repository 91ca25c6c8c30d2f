pub mod Accounts
pub mod Calls
