pub mod DirectoryLaws
pub mod FoundLaws
pub mod ListingLaws
pub mod SoundLaws
pub mod WalkLaws
pub mod WayLaws
