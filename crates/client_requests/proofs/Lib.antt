pub mod CountLaws
pub mod ViewLaws
pub mod HomeKeeping
pub mod StepKeeping
pub mod ServedLaws
pub mod RequestLaws
pub mod RowLaws
pub mod OwedLaws
