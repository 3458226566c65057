pub mod Orders
pub mod Told
pub mod Links
pub mod Turns
pub mod Traces
pub mod Asks
pub mod Replies
