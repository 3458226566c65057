pub mod Bits
pub mod Frames
pub mod Gathering
pub mod Pieces
pub mod Runs
