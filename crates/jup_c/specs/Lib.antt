pub mod Handles
pub mod Prelude
