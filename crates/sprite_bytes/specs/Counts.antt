-- How a count of faults moves.
use Rattle.std.specs.Prelude.{◌≡◌, ℕ, ◌+◌, ◌-◌, ◌^◌, ◌<◌, ◌⊎◌, min}

-- one more, or as before at u64::MAX
abbrev pub raised : ℕ → ℕ
raised count = min (count + 1) (2 ^ 64 - 1)

-- the count rose, or stands at u64::MAX, past which it can't rise
abbrev pub Rose : ℕ → ℕ → Type 0
Rose old new = (old < new) ⊎ (new ≡ 2 ^ 64 - 1)

-- an error tells both counts, and the count rose between them
pub record IsFault (old new before now : ℕ) : Type 0 where
  pub at_start : before ≡ old
  pub at_end : now ≡ new
  pub rose : Rose old new
