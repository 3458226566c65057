pub mod TreeLinks
pub mod DomainLinks
pub mod ServerLinks
pub mod BootLinks
