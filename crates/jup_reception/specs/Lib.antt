pub mod Makings
pub mod Routes
pub mod Wishes
