-- A file's bytes, and their blocks.
use Rattle.std.specs.Prelude.{ℕ, zero, suc, ◌+◌, ◌-◌, ◌*◌, ◌/◌, nat_eq, nat_lt, Bool, if◌then◌else◌, List, [], ◌∷◌, ◌++◌, length, take, drop, replicate}
use Rattle.std.specs.Cmp.Lexicographic.{pointwise}
use Rattle.file_views.specs.Setting.{Setting}

-- so many zeros
abbrev pub zeros : ℕ → List ℕ
zeros count = replicate count 0

-- the bytes with zeros behind them up to that size
abbrev pub grown : List ℕ → ℕ → List ℕ
grown bytes size = bytes ++ zeros (size - length bytes)

-- a whole block that begins with these bytes
abbrev pub whole : Setting → List ℕ → List ℕ
whole z piece = grown piece z.block

-- the block of the bytes with that number, with zeros past their end
abbrev pub part : Setting → List ℕ → ℕ → List ℕ
part z bytes number = whole z (take z.block (drop (number * z.block) bytes))

-- what of a block with that number stands before the size
abbrev pub cut : Setting → List ℕ → ℕ → ℕ → List ℕ
cut z piece number size = take (size - number * z.block) piece

-- the bytes with others over them from there on, and with zeros between where these begin past the end; no bytes change nothing
abbrev pub overlay : List ℕ → ℕ → List ℕ → List ℕ
overlay bytes at [] = bytes
overlay bytes at (first ∷ rest) = take at (grown bytes at) ++ (first ∷ rest) ++ drop (at + length (first ∷ rest)) bytes

-- the bytes with a block put at its place; they grow to the size where they are shorter, and are never cut
abbrev pub put_block : Setting → List ℕ → ℕ → ℕ → List ℕ → List ℕ
put_block z bytes number size piece = overlay (grown bytes size) (number * z.block) piece

-- so many numbers from there on
abbrev pub numbers_from : ℕ → ℕ → List ℕ
numbers_from first zero = []
numbers_from first (suc count) = first ∷ numbers_from (first + 1) count

-- the blocks that bytes from the low place to before the high one stand in
abbrev pub blocks_between : Setting → ℕ → ℕ → List ℕ
blocks_between z low high = if nat_lt low high then numbers_from (low / z.block) ((high - 1) / z.block + 1 - low / z.block) else []

-- whether the bytes are the same
abbrev pub same_bytes : List ℕ → List ℕ → Bool
same_bytes = pointwise nat_eq
