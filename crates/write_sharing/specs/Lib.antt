pub mod Kept
pub mod Watched
pub mod Cuts
pub mod Judged
