pub mod Actions
pub mod Sorts
pub mod Served
