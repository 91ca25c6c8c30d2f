pub mod Clients
pub mod Ends
pub mod Prelude
