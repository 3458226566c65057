pub mod QueueLaws
pub mod TableLaws
