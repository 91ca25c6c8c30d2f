-- What follows from the definitions beside this folder.

pub mod InStep
pub mod Steps
