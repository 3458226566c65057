pub mod ImageLaws
pub mod ReadingLaws
pub mod PuttingLaws
