-- What follows from the definitions beside this folder.

pub mod Settings
