pub mod Pasts
pub mod PastLaws
pub mod Stands
pub mod StandLaws
pub mod Entries
pub mod EntryLaws
