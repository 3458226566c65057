pub mod GiveUpLaws
pub mod RunLaws
pub mod SayingLaws
pub mod TurnLaws
pub mod CauseLaws
pub mod LinkLaws
