pub mod ApplyLaws
pub mod CheckLaws
pub mod VerdictLaws
pub mod WayLaws
