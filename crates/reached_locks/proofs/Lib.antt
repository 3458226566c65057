pub mod HeldLaws
pub mod LockLaws
