-- A world is sound as it is opened and after each event, and what that says of its trace.

pub mod Comes
pub mod Runs
pub mod Steps
pub mod Tallies
pub mod Traces
