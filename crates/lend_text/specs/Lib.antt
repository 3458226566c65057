pub mod Bodies
pub mod Events
