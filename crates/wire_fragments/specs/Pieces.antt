-- What has come of a message in part.
use Rattle.std.specs.Prelude.{ℕ, ◌+◌, ◌-◌, ◌*◌, Bool, true, false, List, [], ◌++◌, length, take, drop, replicate, slice_index_or, slice_set}

-- of each frame whether it has come; and the bytes up to the last that has, with zeros where others are missing
pub record Pieces : Type 0 where
  pub came : List Bool
  pub bytes : List ℕ

-- a message of so many frames, of which none has come
abbrev pub empty_pieces : ℕ → Pieces
empty_pieces count = record { came = replicate count false; bytes = [] }

-- whether the frame of that index has come
abbrev pub is_there : Pieces → ℕ → Bool
is_there pieces index = slice_index_or pieces.came index false

-- the bytes with others over them from there on; what lies between their end and these is zeros
abbrev pub written : List ℕ → ℕ → List ℕ → List ℕ
written bytes from new = take from (bytes ++ replicate (from + length new - length bytes) 0) ++ new ++ drop (from + length new) bytes

-- with the frame of that index, which has that piece of the message
abbrev pub with_frame : Pieces → ℕ → List ℕ → Pieces
with_frame pieces index piece = record { came = slice_set pieces.came index true; bytes = written pieces.bytes (1488 * index) piece }
