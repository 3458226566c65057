pub mod Openings
pub mod OpeningLaws
pub mod Parts
pub mod Packets
pub mod Opens
pub mod Uses
pub mod Entries
pub mod Facing
