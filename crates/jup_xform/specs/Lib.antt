pub mod Batches
pub mod Either
pub mod Grids
pub mod Laws
pub mod Rows
