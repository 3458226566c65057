-- The definitions that the contracts cite.
pub mod Grants
pub mod SyncAnswers
pub mod WriteBacks
pub mod Sync
pub mod Plans
pub mod Finishes
pub mod ServerOps
pub mod Cached
pub mod Filling
pub mod Looks
pub mod Replies
