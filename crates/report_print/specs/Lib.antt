pub mod Refused
pub mod Stats
pub mod Summaries
