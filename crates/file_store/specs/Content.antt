-- The bytes of one file.
use Rattle.std.specs.Prelude.{ℕ, ◌+◌, ◌-◌, ◌*◌, List, [], ◌∷◌, ◌++◌, length, take, drop, replicate}

-- the bytes from there on, at most that many
abbrev pub read_of : List ℕ → ℕ → ℕ → List ℕ
read_of bytes from many = take many (drop from bytes)

-- the bytes with zeros behind them up to that size; they are never cut
abbrev pub grown : List ℕ → ℕ → List ℕ
grown bytes size = bytes ++ replicate (size - length bytes) 0

-- the bytes with others over them
abbrev pub over : List ℕ → ℕ → List ℕ → List ℕ
over bytes from new = take from bytes ++ new ++ drop (from + length new) bytes

-- the bytes after a write: they grow to its end, a hole before it is zeros, and a write of no bytes changes nothing
abbrev pub written : List ℕ → ℕ → List ℕ → List ℕ
written bytes from [] = bytes
written bytes from (first ∷ rest) = over (grown bytes (from + length (first ∷ rest))) from (first ∷ rest)

-- the bytes after a block of 4,096 bytes was put at its place, in a file that is at least of that size
abbrev pub block_put : List ℕ → ℕ → ℕ → List ℕ → List ℕ
block_put bytes block size new = written (grown bytes size) (4096 * block) new
