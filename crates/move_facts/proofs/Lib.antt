pub mod MoveLaws
pub mod MoveRuns
pub mod MoveAnswers
pub mod Leavers
pub mod MoveWholes
pub mod Counts
pub mod MoveKernel
