pub mod FormatLaws
pub mod NumberLaws
pub mod TextLaws
pub mod ListingLaws
pub mod CallLaws
pub mod EntryLaws
pub mod LineLaws
pub mod TogetherLaws
