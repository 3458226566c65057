-- What a source or a sink over one of std's objects stands at.
use Rattle.std.specs.Prelude.{ℕ}

-- the object, and how many of its calls failed
pub record Counted (R : Type 0) : Type 0 where
  pub inner : R
  pub faults : ℕ
