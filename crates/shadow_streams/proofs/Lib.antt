pub mod ShadowLaws
