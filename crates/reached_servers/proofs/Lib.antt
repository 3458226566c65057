pub mod ServerLaws
