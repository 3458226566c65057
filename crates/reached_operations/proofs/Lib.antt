pub mod WireLaws
pub mod CallLaws
pub mod TurnLaws
pub mod OwnLaws
pub mod ServedLaws
pub mod FitLaws
pub mod KeepLaws
pub mod UnfinishedLaws
