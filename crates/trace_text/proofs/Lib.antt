pub mod ToldLaws
pub mod FieldLaws
pub mod EventLaws
pub mod LineLaws
