-- The definitions that the contracts cite.
pub mod Asks
pub mod Tables
pub mod Opened
pub mod Getting
pub mod Asking
pub mod Masters
pub mod Making
