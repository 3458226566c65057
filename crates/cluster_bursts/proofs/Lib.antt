pub mod EndLaws
pub mod BeginLaws
