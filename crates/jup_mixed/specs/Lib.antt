pub mod Mixed
pub mod Prelude
