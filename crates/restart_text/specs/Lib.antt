pub mod FileLines
pub mod FileTexts
