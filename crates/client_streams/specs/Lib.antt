-- The definitions that the contracts cite.
pub mod Descriptors
pub mod Closing
pub mod Moving
