pub mod Ways
pub mod Verdicts
pub mod Laws
pub mod Applied
pub mod Replays
