pub mod Asks
pub mod Clients
pub mod Ends
pub mod Names
pub mod Once
pub mod Operations
pub mod Replies
pub mod Streams
