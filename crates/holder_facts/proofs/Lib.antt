pub mod Lines
pub mod LineRuns
pub mod LineAnswers
pub mod LineKernel
pub mod SyncRuns
pub mod SyncAnswers
pub mod SyncRest
pub mod SyncKernel
