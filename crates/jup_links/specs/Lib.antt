pub mod Carriages
pub mod Changes
pub mod Counts
pub mod FirstBytes
pub mod LastLines
pub mod Linked
pub mod Messages
pub mod Ways
