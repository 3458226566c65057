pub mod HolderFacts
