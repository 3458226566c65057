-- The definitions that the contracts cite.
pub mod Rows
pub mod Extents
pub mod Calls
pub mod Says
pub mod Steps
pub mod Locks
pub mod Fillers
pub mod Streams
pub mod Blocks
pub mod WriteBacks
pub mod Boot
pub mod Closes
