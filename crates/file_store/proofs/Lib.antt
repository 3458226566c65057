pub mod FileLaws
pub mod LengthLaws
pub mod ListLaws
