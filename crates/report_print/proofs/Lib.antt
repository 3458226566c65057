pub mod LineLaws
pub mod StatLaws
