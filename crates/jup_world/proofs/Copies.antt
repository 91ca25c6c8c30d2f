-- Any two copies of the board, at one moment or at two, show in one order what both show.

pub mod Boards
pub mod Sites
pub mod Stars
