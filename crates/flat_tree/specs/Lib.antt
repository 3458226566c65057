pub mod Examples
pub mod Listings
pub mod Opening
pub mod Requests
pub mod Runs
