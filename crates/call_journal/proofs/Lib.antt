pub mod GrowthLaws
pub mod TraceLaws
