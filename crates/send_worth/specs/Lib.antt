pub mod Comparisons
pub mod Sends
pub mod SendLaws
