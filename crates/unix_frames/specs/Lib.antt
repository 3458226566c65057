pub mod Frames
pub mod Order
