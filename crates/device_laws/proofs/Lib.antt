pub mod DeviceLaws
pub mod GoneLaws
pub mod RunLaws
