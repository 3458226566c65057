pub mod Digits
pub mod Parcels
pub mod Reports
pub mod Sending
pub mod Texts
