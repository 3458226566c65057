pub mod SharedLaws
pub mod FileLaws
pub mod ToldLaws
pub mod OwedLaws
pub mod RuleLaws
pub mod TraceLaws
