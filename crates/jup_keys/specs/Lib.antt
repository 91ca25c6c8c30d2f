pub mod Digests
pub mod Ids
pub mod Keyrings
pub mod Makings
pub mod Notes
pub mod Rights
