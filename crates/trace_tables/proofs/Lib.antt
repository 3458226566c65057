pub mod TieLaws
