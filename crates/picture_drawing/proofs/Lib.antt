pub mod RowLaws
pub mod PictureLaws
