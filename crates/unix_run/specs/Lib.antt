pub mod Coming
pub mod Contents
pub mod Names
pub mod Devices
pub mod Among
pub mod Entering
pub mod Family
pub mod Outcomes
