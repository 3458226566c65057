pub mod Deeds
pub mod Laws
pub mod Parked
pub mod AsOne
