pub mod Numbers
pub mod Sessions
pub mod OpenedSession
