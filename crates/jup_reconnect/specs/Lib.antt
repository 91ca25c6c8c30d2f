pub mod AnyClients
pub mod Lasting
pub mod LastingNumbers
pub mod Runs
