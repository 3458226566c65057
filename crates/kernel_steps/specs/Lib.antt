-- The definitions that the contracts cite.
pub mod Outs
pub mod Rows
