-- The definitions that the contracts cite.
pub mod Says
pub mod Words
pub mod Clusters
pub mod Procs
pub mod Homes
pub mod Killing
pub mod Waits
pub mod Ends
pub mod Kills
pub mod Calls
pub mod Births
pub mod Pages
pub mod Issuing
