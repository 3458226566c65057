pub mod Deliveries
pub mod Expiries
pub mod Faults
pub mod Worth
