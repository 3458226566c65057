pub mod EndLaws
pub mod ServedLaws
pub mod StepLaws
pub mod CallbackLaws
