pub mod LandingLaws
pub mod MoveLaws
pub mod EndLaws
pub mod StayLaws
