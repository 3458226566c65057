-- The definitions that the laws cite.
pub mod FileFacts
pub mod FileExamples
pub mod ProcFacts
pub mod HomeFacts
pub mod ProcExamples
pub mod Begins
pub mod GoingOn
pub mod Places
pub mod Rounds
pub mod Cached
