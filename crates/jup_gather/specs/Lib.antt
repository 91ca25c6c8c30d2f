pub mod Gathering
pub mod Prelude
