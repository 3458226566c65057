-- Labels, and the lines that define them.
use Rattle.std.specs.Prelude.{ℕ, List, [], ◌∷◌, ◌==◌, ◌+◌, ◌&&◌, ◌||◌, not, Bool, false, Option, Some, None, if◌then◌else◌, nat_le, nat_lt, length}
use Rattle.std.specs.Option.{is_some}
use Rattle.std.specs.List.{list_all, before_first}
use Rattle.program_text.specs.Words.{same, words_of}
use Rattle.program_text.specs.Operands.{register_of}

-- a byte from `a` to `z`
abbrev pub is_letter : ℕ → Bool
is_letter b = nat_le 97 b && nat_le b 122

-- a byte of a label behind its first: a letter, a digit or `_`
abbrev pub is_label_byte : ℕ → Bool
is_label_byte b = is_letter b || (nat_le 48 b && nat_le b 57) || b == 95

-- a label: 1 to 16 such bytes, the first a letter, and no register's name
abbrev pub is_label : List ℕ → Bool
is_label [] = false
is_label (b ∷ bs) =
    is_letter b && nat_lt (length bs) 16 && not (is_some (register_of (b ∷ bs))) && list_all is_label_byte bs

-- the name as a label, where the word is it and one byte more
abbrev pub label_before : List ℕ → List ℕ → Option (List ℕ)
label_before word name = if length name + 1 == length word && is_label name then Some name else None

-- the label that a word defines: a label and then a colon
abbrev pub label_in : List ℕ → Option (List ℕ)
label_in word = label_before word (before_first (λ b. b == 58) word)

-- the label that a line of these words defines
abbrev pub label_of : List (List ℕ) → Option (List ℕ)
label_of [] = None
label_of (word ∷ []) = label_in word
label_of (word ∷ more ∷ words) = None

-- whether the label that was found, where there is one, is that of the name
abbrev pub is_named : Option (List ℕ) → List ℕ → Bool
is_named None name = false
is_named (Some label) name = same label name

-- whether one of the lines defines the label of the name
abbrev pub defines : List (List ℕ) → List ℕ → Bool
defines [] name = false
defines (line ∷ lines) name = is_named (label_of (words_of line)) name || defines lines name
