-- What the program's words ask for.
use Rattle.std.specs.Prelude.{codes, ℕ, ◌+◌, ◌==◌, ◌||◌, ◌&&◌, nat_eq, nat_le, nat_lt, if◌then◌else◌, List, [], ◌∷◌, Option, Some, None, length, take, drop}
use Rattle.std.specs.List.{position_or_len}
use Rattle.std.specs.Cmp.Lexicographic.{pointwise}
use Rattle.sprite_ids.specs.declared.names.FileId.{FileId}
use Rattle.text_lines.specs.Lines.{number_of}
use Rattle.trace_picture.specs.declared.asking.Asked.{Asked}

-- the first and the last record, counted from 1
abbrev pub range_with : ℕ → ℕ → Option (ℕ × ℕ)
range_with first last = if nat_le 1 first && nat_le first last then Some (first, last) else None

abbrev pub range_numbers : Option ℕ → Option ℕ → Option (ℕ × ℕ)
range_numbers (Some first) (Some last) = range_with first last
range_numbers _ _ = None

abbrev pub range_of : List ℕ → List ℕ → Option (ℕ × ℕ)
range_of first last = range_numbers (number_of first) (number_of last)

-- a file, by its server's number and its own
abbrev pub file_with : ℕ → ℕ → Option FileId
file_with server number =
    if nat_lt server 1 || nat_lt 16 server || nat_lt 4294967295 number then None else Some (record { server = server; number = number })

abbrev pub file_numbers : Option ℕ → Option ℕ → Option FileId
file_numbers (Some server) (Some number) = file_with server number
file_numbers _ _ = None

-- the two stand before and behind the first colon
abbrev pub file_at : List ℕ → ℕ → Option FileId
file_at word colon = if nat_le (length word) colon then None else file_numbers (number_of (take colon word)) (number_of (drop (colon + 1) word))

abbrev pub file_of : List ℕ → Option FileId
file_of word = file_at word (position_or_len (λ b. b == 58) word)

abbrev pub following : Option (ℕ × ℕ) → Option FileId → Option Asked
following range (Some file) = Some (record { range = range; file = Some file })
following range None = None

abbrev pub showing : Option (ℕ × ℕ) → Option Asked
showing (Some range) = Some (record { range = Some range; file = None })
showing None = None

abbrev pub both : Option (ℕ × ℕ) → Option FileId → Option Asked
both (Some range) file = following (Some range) file
both None file = None

-- `follow FILE`, or the first and the last record
abbrev pub two_words : List ℕ → List ℕ → Option Asked
two_words first second = if pointwise nat_eq first (codes "follow") then following None (file_of second) else showing (range_of first second)

-- nothing, or `FIRST LAST`, and behind it nothing, or `follow FILE`
abbrev pub asked_of : List (List ℕ) → Option Asked
asked_of [] = Some (record { range = None; file = None })
asked_of (first ∷ second ∷ []) = two_words first second
asked_of (first ∷ last ∷ word ∷ file ∷ []) = if pointwise nat_eq word (codes "follow") then both (range_of first last) (file_of file) else None
asked_of _ = None
