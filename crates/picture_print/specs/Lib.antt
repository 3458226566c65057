pub mod Svg
pub mod WellFormed
pub mod Laws
