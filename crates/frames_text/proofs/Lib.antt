pub mod AskLaws
pub mod CutLaws
pub mod LoopLaws
pub mod LostLaws
pub mod SentLaws
pub mod TextLaws
