pub mod Inboxes
pub mod Reads
