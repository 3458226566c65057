pub mod Stalls
pub mod Clients
pub mod Runs
