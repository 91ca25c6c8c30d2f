pub mod Boards
pub mod Drafting
pub mod Saying
pub mod Texts
