-- The definitions that the contracts cite.
pub mod Launching
pub mod Moving
pub mod Issues
pub mod Arriving
pub mod Answered
pub mod Turning
pub mod Steps
pub mod Readers
pub mod Boot
pub mod CanTake
