pub mod Prelude
pub mod Sessions
