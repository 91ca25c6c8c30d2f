pub mod Drafts
pub mod Prelude
pub mod Said
