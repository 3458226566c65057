pub mod DomainLaws
pub mod SortLaws
