pub mod Steps
pub mod Candidates
pub mod Seeds
pub mod Seats
