-- The definitions that the contracts cite.
pub mod Packing
pub mod OneMove
pub mod Moves
pub mod Arriving
pub mod Landing
pub mod Staying
