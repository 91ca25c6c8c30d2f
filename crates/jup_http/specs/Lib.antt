pub mod Events
pub mod Frames
pub mod Asked
pub mod Heads
pub mod Prelude
pub mod Readers
pub mod Streams
