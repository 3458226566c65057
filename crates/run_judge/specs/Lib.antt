pub mod Waiting
pub mod Halts
pub mod Ends
pub mod Judged
