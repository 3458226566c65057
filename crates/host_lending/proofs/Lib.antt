pub mod HostLaws
pub mod AnswerLaws
pub mod RunLaws
