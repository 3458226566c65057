pub mod Kernels
pub mod States
pub mod Booted
