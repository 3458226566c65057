pub mod AuditLaws
pub mod TextLaws
