pub mod BootLaws
