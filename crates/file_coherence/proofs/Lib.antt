pub mod ByteLaws
pub mod ListLaws
pub mod RunLaws
