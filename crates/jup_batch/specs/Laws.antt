-- What follows from the definitions beside this folder.

pub mod BatchedLaws
pub mod Boards
