pub mod Everywhere
pub mod Finishing
pub mod Logs
pub mod Reached
pub mod Steps
pub mod Wires
