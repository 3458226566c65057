-- Flags that are kept as bits, eight in a byte.
use Rattle.std.specs.Prelude.{ℕ, zero, suc, ◌+◌, ◌/◌, ◌%◌, ◌==◌, Bool, List, [], ◌∷◌, slice_index_or}
use Rattle.std.specs.Int.{bit_at}

-- the flag of that place: it is set where bit at % 8, counted from the lowest, of byte at / 8 is 1
abbrev pub flag_in : List ℕ → ℕ → Bool
flag_in bytes at = bit_at (slice_index_or bytes (at / 8) 0) (at % 8) == 1

-- so many flags, from that place on
abbrev pub flags_from : List ℕ → ℕ → ℕ → List Bool
flags_from bytes at zero = []
flags_from bytes at (suc left) = flag_in bytes at ∷ flags_from bytes (at + 1) left
