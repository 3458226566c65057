pub mod Answering
pub mod RootLaws
pub mod ServerLaws
