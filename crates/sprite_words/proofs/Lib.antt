pub mod OneLaws
pub mod WordLaws
