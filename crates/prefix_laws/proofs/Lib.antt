pub mod TellsLaws
pub mod Bearing
pub mod LearnLaws
