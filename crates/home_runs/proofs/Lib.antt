pub mod FirstLaws
pub mod StillLaws
pub mod RunLaws
