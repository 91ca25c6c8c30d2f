-- What follows from the definitions beside this folder.

pub mod Batches
pub mod BoundLaws
pub mod Either
pub mod Grids
