pub mod SyncFacts
pub mod QueueFacts
