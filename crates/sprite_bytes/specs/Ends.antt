-- How reading to the end may end other than well.
use Rattle.std.specs.Prelude.{◌≡◌, ℕ, ◌+◌, ◌≤◌, List, length, Option}
use Rattle.std.specs.Io.KnownBytes.{Consumes}
use Rattle.sprite_bytes.specs.Counts.{IsFault}
use Rattle.sprite_bytes.specs.declared.read_end.ReadEnd.{ReadEnd}
use Rattle.sprite_bytes.specs.declared.read_end.ReadEnd.TheVariants.{Fault, TooLong, NoMemory}

-- a fault tells the counts of the source, as they stood at first and stand in the end
abbrev pub IsByCount : ℕ → ℕ → ReadEnd → Type 0
IsByCount old new (Fault before now) = IsFault old new before now
IsByCount old new TooLong = Unit {0}
IsByCount old new NoMemory = Unit {0}

-- at most so many bytes came
pub record CameWithin (left left_after : Option (List ℕ)) (limit : ℕ) : Type 0 where
  pub came : List ℕ
  pub read : Consumes left left_after came
  pub within : length came ≤ limit

-- one byte more than so many came
pub record CameOver (left left_after : Option (List ℕ)) (limit : ℕ) : Type 0 where
  pub came : List ℕ
  pub read : Consumes left left_after came
  pub over : length came ≡ limit + 1

-- too long is what is longer than the limit, and nothing else
abbrev pub IsByLength : Option (List ℕ) → Option (List ℕ) → ℕ → ReadEnd → Type 0
IsByLength left left_after limit (Fault before now) = CameWithin left left_after limit
IsByLength left left_after limit TooLong = CameOver left left_after limit
IsByLength left left_after limit NoMemory = CameWithin left left_after limit
