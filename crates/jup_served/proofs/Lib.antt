mod Calls
mod Hubs
pub mod Runs
pub mod Witness
