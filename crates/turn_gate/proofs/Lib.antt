pub mod SmallLaws
pub mod RuleLaws
pub mod StepLaws
pub mod DealLaws
pub mod EndLaws
pub mod TurnLaws
pub mod SeatLaws
