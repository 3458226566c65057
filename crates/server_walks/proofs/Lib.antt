pub mod NameEnds
pub mod Deeds
pub mod ServeWalk
pub mod StepWalk
pub mod Bearing
pub mod TellingLaws
pub mod BootWalk
pub mod ListLaws
