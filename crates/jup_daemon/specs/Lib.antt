pub mod Daemons
pub mod Doors
pub mod Ends
