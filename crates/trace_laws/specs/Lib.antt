pub mod Appended
pub mod Faults
pub mod Issues
pub mod Numbers
pub mod SomeLaws
