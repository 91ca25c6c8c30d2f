pub mod Boards
pub mod Commands
pub mod Prelude
pub mod Words
