pub mod Judged
pub mod Top
