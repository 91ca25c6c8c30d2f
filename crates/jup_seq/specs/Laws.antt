-- What follows from the definitions beside this folder.

pub mod EditLists
pub mod Kinds
pub mod Squares
