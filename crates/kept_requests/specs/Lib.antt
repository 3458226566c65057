pub mod Kept
pub mod Callbacks
