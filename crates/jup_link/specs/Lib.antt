pub mod Laws
pub mod Links
