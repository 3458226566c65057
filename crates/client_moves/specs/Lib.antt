-- The definitions that the contracts cite.
pub mod Carrying
pub mod Leaving
pub mod Freezing
pub mod Returning
pub mod Paging
pub mod Evicting
