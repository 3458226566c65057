-- The definitions that the contracts cite.
pub mod Flags
pub mod Says
pub mod Files
pub mod Directory
pub mod Listing
pub mod Names
pub mod OpenCalls
pub mod Grants
pub mod Opens
pub mod Ops
pub mod Requests
pub mod Served
pub mod Waits
pub mod Steps
pub mod Boot
pub mod Facts
