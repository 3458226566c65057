pub mod DeedLaws
pub mod FrameLaws
pub mod ActLaws
pub mod HomeWalk
pub mod WaitingLaws
pub mod WakeLaws
pub mod AsOneLaws
