-- How a file's bytes are written in place.
use Rattle.std.specs.Prelude.{ℕ, ◌+◌, ◌-◌, List, ◌++◌, length, take, drop, replicate}

-- the bytes with zeros behind them up to that size; they are never cut
abbrev pub grown : List ℕ → ℕ → List ℕ
grown bytes size = bytes ++ replicate (size - length bytes) 0

-- the bytes with others over them
abbrev pub over : List ℕ → ℕ → List ℕ → List ℕ
over bytes from new = take from bytes ++ new ++ drop (from + length new) bytes
