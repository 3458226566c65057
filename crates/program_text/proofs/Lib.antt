pub mod WordLaws
pub mod ChoiceLaws
pub mod NameLaws
pub mod PlainLaws
pub mod LimitLaws
pub mod FirstLaws
