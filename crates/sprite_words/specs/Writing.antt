-- What a command writes of what is due.
use Rattle.std.specs.Prelude.{ℕ, ◌<◌, List, Option, length, take}
use Rattle.std.specs.Io.KnownBytes.{Appends}
use Rattle.sprite_bytes.specs.Counts.{Rose}

-- what was due was written behind what the sink held
pub record Wrote (held held_after : Option (List ℕ)) (Due : List ℕ → Type 0) : Type 0 where
  pub due : List ℕ
  pub is_due : Due due
  pub wrote : Appends held held_after due

-- a prefix of what was due was written, for the status that would have come
pub record Broke {S : Type 0} (held held_after : Option (List ℕ)) (faults faults_after : ℕ) (Due : S → List ℕ → Type 0) : Type 0 where
  pub status : S
  pub due : List ℕ
  pub is_due : Due status due
  pub count : ℕ
  pub part : count < length due
  pub wrote : Appends held held_after (take count due)
  pub rose : Rose faults faults_after
