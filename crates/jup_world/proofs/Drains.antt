-- What a drain does, and that it ends.

pub mod Deliveries
pub mod Rounds
