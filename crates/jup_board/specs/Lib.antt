pub mod Boards
pub mod Prelude
