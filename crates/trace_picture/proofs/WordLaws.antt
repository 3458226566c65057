-- Words of which there are too few or too many ask for nothing.
use Rattle.std.proofs.Common.{◌≡◌, ℕ, ◌≤◌, ◌<◌, List, [], ◌∷◌, None, length, refl, arith, String, Global}
use Rattle.sprite_words.specs.Words.{spelled}
use Rattle.trace_picture.specs.Words.{asked_of}

pub one_word : (words : List (String Global)) → 1 ≤ length words → length words < 2 → None ≡ asked_of (spelled words)
one_word [] some few = absurd (omega (arith, some))
one_word (a ∷ []) some few = refl
one_word (a ∷ b ∷ words) some few = absurd (omega (arith, few))

pub three_words : (words : List (String Global)) → 3 ≤ length words → length words < 4 → None ≡ asked_of (spelled words)
three_words [] some few = absurd (omega (arith, some))
three_words (a ∷ []) some few = refl
three_words (a ∷ b ∷ []) some few = absurd (omega (arith, some))
three_words (a ∷ b ∷ c ∷ []) some few = refl
three_words (a ∷ b ∷ c ∷ d ∷ words) some few = absurd (omega (arith, few))

pub more_words : (words : List (String Global)) → 5 ≤ length words → None ≡ asked_of (spelled words)
more_words [] many = absurd (omega (arith, many))
more_words (a ∷ []) many = refl
more_words (a ∷ b ∷ []) many = absurd (omega (arith, many))
more_words (a ∷ b ∷ c ∷ []) many = refl
more_words (a ∷ b ∷ c ∷ d ∷ []) many = absurd (omega (arith, many))
more_words (a ∷ b ∷ c ∷ d ∷ e ∷ words) many = refl
