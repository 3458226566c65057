pub mod ListLaws
pub mod OnceLaws
