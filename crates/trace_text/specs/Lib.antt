pub mod Fields
pub mod Events
pub mod Traces
pub mod Laws
