pub mod TakenLaws
pub mod ClientLaws
