pub mod Fates
pub mod Notices
pub mod Redialed
pub mod Trials
