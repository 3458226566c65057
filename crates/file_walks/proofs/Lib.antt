pub mod Caches
pub mod BlockWalks
pub mod Muted
pub mod DataWalks
pub mod CloseWalks
pub mod CallWalks
