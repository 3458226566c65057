-- The definitions that the contracts cite.
pub mod OpenFlags
pub mod Paths
pub mod Making
pub mod Requests
pub mod Lookups
pub mod Issues
pub mod Answers
