pub mod Rounds
pub mod OneThing
