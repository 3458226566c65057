-- The facts of a server's state, as its laws say them.
pub mod Steps
pub mod Asking
pub mod Calls
pub mod Unlinked
pub mod Shared
