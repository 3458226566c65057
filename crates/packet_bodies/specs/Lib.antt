-- The definitions that the contracts cite.
pub mod About
pub mod Modes
