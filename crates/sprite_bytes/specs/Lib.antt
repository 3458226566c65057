pub mod Counts
pub mod Calls
pub mod Feed
pub mod Store
pub mod Counted
pub mod Ends
