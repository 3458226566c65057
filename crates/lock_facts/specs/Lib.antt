pub mod LockFacts
pub mod WaitFacts
pub mod LockSteps
pub mod TurnFacts
