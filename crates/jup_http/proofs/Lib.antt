pub mod Ends
pub mod Frames
pub mod Heads
pub mod TextLemmas
