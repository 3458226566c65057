pub mod Swap
