pub mod Lists
pub mod Modes
pub mod Opens
pub mod Files
pub mod Coherence
pub mod Decisions
pub mod Laws
pub mod Versions
