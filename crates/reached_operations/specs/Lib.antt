pub mod Operations
pub mod Answered
pub mod Unfinished
