-- A site and its end at the star stay in step, as each of the two edits and receives edits.

pub mod Edits
pub mod Grids
pub mod Places
pub mod Streams
