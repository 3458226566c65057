pub mod CauseLaws
pub mod CompleteLaws
pub mod KnownLaws
pub mod RunLaws
pub mod TopLaws
