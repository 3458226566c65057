pub mod Among
pub mod Contents
pub mod Devices
pub mod Paths
pub mod Places
pub mod Starts
pub mod Worlds
