pub mod EightLaws
