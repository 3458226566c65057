pub mod Entries
pub mod Owners
pub mod Streams
