pub mod Devices
pub mod Gone
pub mod Laws
pub mod Runs
