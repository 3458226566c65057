pub mod Counts
pub mod Fates
pub mod PlanCounts
pub mod PairLaws
