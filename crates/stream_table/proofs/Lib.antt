pub mod EntryLaws
pub mod FoundLaws
pub mod OwnerLaws
pub mod ReferLaws
pub mod TableLaws
pub mod MapLaws
