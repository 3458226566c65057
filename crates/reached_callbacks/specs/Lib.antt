pub mod Clients
pub mod Callbacks
pub mod Stalls
pub mod Waits
