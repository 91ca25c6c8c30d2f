pub mod Calls
pub mod Endings
pub mod Passes
pub mod Simulate
pub mod Stars
pub mod WholeRuns
