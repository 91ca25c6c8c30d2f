pub mod ExactSessions
pub mod Prelude
pub mod Sessions
