pub mod OutcomeLaws
pub mod TopLaws
pub mod WordLaws
