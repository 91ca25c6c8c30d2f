pub mod Digits
mod KeptLines
pub mod PieceLaws
pub mod Readings
pub mod Texts
mod WayLaws
pub mod WayRuns
