pub mod FindLaws
pub mod GoOnLaws
pub mod GoneLaws
pub mod MakeLaws
pub mod RemoveLaws
pub mod RenameLaws
pub mod WalkLaws
pub mod WellLaws
