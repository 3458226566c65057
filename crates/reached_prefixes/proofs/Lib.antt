pub mod FaultLaws
pub mod TraceLaws
pub mod TurnLaws
pub mod KnownLaws
