pub mod Kills
pub mod Told
pub mod Known
