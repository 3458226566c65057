pub mod AmongLaws
pub mod DeviceLaws
pub mod EnteringLaws
pub mod OpeningLaws
pub mod EntryLaws
pub mod FamilyLaws
pub mod OutcomeLaws
