pub mod NameLaws
pub mod Names
pub mod PathLaws
pub mod Paths
pub mod ReadLaws
pub mod Reads
