pub mod FileStreams
pub mod Soles
pub mod SoleRuns
pub mod SoleAnswers
pub mod IssueWalks
pub mod SoleKernel
