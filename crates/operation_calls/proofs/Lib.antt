pub mod Books
pub mod Asked
pub mod RunLaws
pub mod AnswerLaws
pub mod StepLaws
pub mod AskLaws
pub mod GoneLaws
