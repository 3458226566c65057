pub mod AppendLaws
pub mod EntryLaws
pub mod FaultLaws
pub mod IssueLaws
pub mod OutcomeLaws
pub mod ProgressLaws
pub mod TruthLaws
