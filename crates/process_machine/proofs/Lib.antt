pub mod MemoryLaws
pub mod MachineLaws
pub mod StepLaws
pub mod FillLaws
pub mod PartLaws
pub mod LimitLaws
