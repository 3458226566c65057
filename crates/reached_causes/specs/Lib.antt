pub mod GivenUp
pub mod Causes
