pub mod Numbers
pub mod Prelude
pub mod Sessions
pub mod Views
