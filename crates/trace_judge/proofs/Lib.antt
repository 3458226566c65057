pub mod KeepingLaws
pub mod CutLaws
