pub mod Histories
pub mod Passes
pub mod Prelude
pub mod Turns
