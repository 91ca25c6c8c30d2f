pub mod BoardLines
pub mod CommandWords
pub mod Quotes
