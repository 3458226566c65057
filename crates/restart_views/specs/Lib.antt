pub mod ServerMoves
pub mod ColdSteps
pub mod Restarts
pub mod Answered
pub mod RestartLaw
pub mod RunBytes
pub mod RunLaw
