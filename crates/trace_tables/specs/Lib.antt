pub mod Calls
pub mod Ties
pub mod Callers
pub mod Known
pub mod Told
pub mod KnownLaws
pub mod CallerLaws
pub mod TellLaws
