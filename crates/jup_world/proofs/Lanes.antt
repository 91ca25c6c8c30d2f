-- Worlds whose links carry bytes.

pub mod LaneEvents
pub mod Sites
pub mod Worlds
