pub mod Causes
pub mod Waits
pub mod Sayings
