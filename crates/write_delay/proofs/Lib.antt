pub mod DelayLaws
pub mod DueLaws
