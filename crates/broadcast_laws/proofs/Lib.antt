pub mod Asking
pub mod AskLaws
