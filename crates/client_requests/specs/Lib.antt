pub mod Kept
pub mod Rows
pub mod Requests
pub mod Owed
