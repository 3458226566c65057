-- The definitions that the contracts cite.
pub mod Reaches
pub mod DataIssues
pub mod CallIssues
pub mod Asked
pub mod Answered
pub mod Turns
pub mod Arrivals
pub mod FileSteps
