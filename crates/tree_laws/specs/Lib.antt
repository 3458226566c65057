pub mod GoOn
pub mod Laws
pub mod Renames
pub mod Trees
pub mod Wellnamed
