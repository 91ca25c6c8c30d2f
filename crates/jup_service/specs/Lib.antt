pub mod Ends
pub mod Servers
