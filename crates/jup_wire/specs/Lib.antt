pub mod Fields
pub mod Kinds
pub mod Lines
pub mod Prelude
pub mod Streams
