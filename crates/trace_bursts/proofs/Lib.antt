pub mod ReasonLaws
pub mod BehindLaws
pub mod CostLaws
