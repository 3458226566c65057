pub mod Bursts
pub mod Ends
