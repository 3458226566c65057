pub mod CauseLaws
pub mod ServerCauses
pub mod WaitLaws
pub mod SaidLaws
