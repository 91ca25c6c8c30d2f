pub mod Histories
pub mod TurnsKept
