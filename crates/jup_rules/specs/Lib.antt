pub mod Ends
pub mod Lags
pub mod Prelude
pub mod Sessions
