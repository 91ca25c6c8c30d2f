-- What follows from the definitions beside this folder.

pub mod Boards
pub mod Entries
pub mod Operations
pub mod Widgets
