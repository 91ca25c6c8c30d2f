pub mod ByKind
pub mod Plain
pub mod Readings
pub mod Spellings
pub mod Streams
