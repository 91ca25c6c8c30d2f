pub mod Answers
pub mod Edits
pub mod LineKinds
pub mod Links
pub mod Runs
