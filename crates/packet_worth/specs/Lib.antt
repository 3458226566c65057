pub mod Counts
pub mod Faults
pub mod Pairs
pub mod PairLaws
pub mod Losses
pub mod LossLaws
