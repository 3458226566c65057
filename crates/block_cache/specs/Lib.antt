pub mod Ages
pub mod Blocks
pub mod Files
pub mod Held
pub mod Laws
pub mod Ranges
pub mod Reach
