pub mod ChangeLaws
pub mod EntryLaws
pub mod FrameLaws
pub mod OrderLaws
pub mod StepLaws
