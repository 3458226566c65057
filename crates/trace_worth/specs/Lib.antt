pub mod Worths
pub mod Known
pub mod WorthLaws
