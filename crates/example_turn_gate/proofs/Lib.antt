pub mod PairLaws
pub mod SumLaws
