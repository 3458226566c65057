pub mod FillFacts
pub mod NoCache
pub mod ShortFacts
