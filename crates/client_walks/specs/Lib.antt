pub mod Hands
pub mod PlacesOnce
pub mod Answers
