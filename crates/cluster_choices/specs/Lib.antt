pub mod Acts
pub mod Choosing
