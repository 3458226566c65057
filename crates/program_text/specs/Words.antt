-- Words of a text.
use Rattle.std.specs.Prelude.{ℕ, List, [], ◌∷◌, ◌==◌, not, Bool, true, if◌then◌else◌, nat_eq, drop}
use Rattle.std.specs.List.{onto_first, position_or_len}
use Rattle.std.specs.Cmp.Lexicographic.{pointwise}

-- whether two texts are the same
abbrev pub same : List ℕ → List ℕ → Bool
same = pointwise nat_eq

-- whether a word that goes before these bytes ends there: they are none, or begin with a space
abbrev pub ends_word : List ℕ → Bool
ends_word [] = true
ends_word (b ∷ bs) = b == 32

-- the words of a line, which spaces separate
abbrev pub words_of : List ℕ → List (List ℕ)
words_of [] = []
words_of (b ∷ bs) =
    if b == 32
    then words_of bs
    else (if ends_word bs then (b ∷ []) ∷ words_of bs else onto_first b (words_of bs))

-- the bytes from the first one on that is no space
abbrev pub skip_spaces : List ℕ → List ℕ
skip_spaces bs = drop (position_or_len (λ b. not (b == 32)) bs) bs

-- what stands behind the first word
abbrev pub past_word : List ℕ → List ℕ
past_word bs = drop (position_or_len (λ b. b == 32) (skip_spaces bs)) (skip_spaces bs)
