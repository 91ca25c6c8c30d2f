pub mod Prelude
pub mod RunFaults
pub mod Runs
