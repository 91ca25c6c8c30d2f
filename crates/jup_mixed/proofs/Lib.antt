pub mod Programs
pub mod Worlds
