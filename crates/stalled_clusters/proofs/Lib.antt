pub mod IdleLaws
pub mod StalledLaws
