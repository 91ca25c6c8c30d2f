pub mod Batched
pub mod Boards
pub mod Laws
pub mod Prelude
