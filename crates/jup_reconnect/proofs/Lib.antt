pub mod Calls
pub mod CutSession
pub mod Hearing
pub mod Putting
pub mod Unbroken
