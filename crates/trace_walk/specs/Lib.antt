pub mod Walks
pub mod Pairs
