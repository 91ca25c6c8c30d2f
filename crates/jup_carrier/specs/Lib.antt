pub mod Hearings
