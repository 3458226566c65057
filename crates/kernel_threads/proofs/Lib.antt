pub mod CandidateLaws
pub mod RunLaws
pub mod SeedLaws
pub mod ActLaws
pub mod SeatLaws
pub mod ThreadLaws
pub mod BoundLaws
