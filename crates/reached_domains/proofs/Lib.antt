pub mod CallLaws
pub mod KernelLaws
pub mod TurnLaws
pub mod DomainLaws
pub mod RowLaws
pub mod LearnedLaws
