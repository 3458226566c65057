pub mod TestLaws
pub mod SomeLaws
pub mod KillLaws
pub mod ToldLaws
pub mod AmongLaws
pub mod KnownLaws
pub mod MetLaws
pub mod WholeLaws
