pub mod Appends
pub mod Patience
