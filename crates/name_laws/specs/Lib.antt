pub mod Boots
pub mod Deeds
pub mod GoOn
pub mod Laws
pub mod Opens
pub mod Served
