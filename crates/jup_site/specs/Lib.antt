pub mod Courses
pub mod Moments
pub mod Prelude
pub mod Sites
pub mod Sound
pub mod Turns
