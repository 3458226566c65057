-- The greatest of the numbers so far.
use Rattle.std.specs.Prelude.{ℕ, Bool, true, if◌then◌else◌, nat_lt, Option, Some, None}

-- a number is greater than that one
abbrev pub is_less : Option ℕ → ℕ → Bool
is_less None stamp = true
is_less (Some last) stamp = nat_lt last stamp

-- the greater one of a number and one that may be there
abbrev pub later : ℕ → Option ℕ → ℕ
later stamp None = stamp
later stamp (Some last) = if nat_lt last stamp then stamp else last
