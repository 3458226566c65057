pub mod OwedLaws
pub mod SettleLaws
