pub mod ListLaws
pub mod FacingLaws
pub mod PartLaws
pub mod PacketLaws
pub mod OpeningLaws
pub mod OpenLaws
pub mod UseLaws
pub mod EntryLaws
