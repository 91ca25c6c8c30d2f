pub mod Cuts
pub mod Hearings
