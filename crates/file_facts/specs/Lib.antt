pub mod CallFacts
pub mod CallSteps
