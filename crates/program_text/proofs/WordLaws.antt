-- Where words end.
use Rattle.std.proofs.Common.{◌≡◌, ℕ, suc, ◌+◌, ◌-◌, ◌<◌, ◌==◌, List, [], ◌∷◌, length, take, drop, Bool, true, false, cond, not, refl, ap, sym, subst, ◌∙◌, arith}
use Rattle.std.specs.Bool.{if◌then◌else◌}
use Rattle.std.specs.List.{position_or_len, onto_first}
use Rattle.std.proofs.lemmas.List.{take_rest}
use Rattle.program_text.specs.Words.{words_of, ends_word, skip_spaces, past_word}

-- the words of a text with one more byte, whose being a space is t
abbrev pub words_with : (t : Bool) (b : ℕ) (bs : List ℕ) → List (List ℕ)
words_with t b bs = if t then words_of bs else (if ends_word bs then (b ∷ []) ∷ words_of bs else onto_first b (words_of bs))

-- one byte before a text: the words are those past the spaces
skipped_from : (t : Bool) (b : ℕ) (bs : List ℕ) (n : ℕ) → words_with t b bs ≡ words_of (b ∷ bs) → words_of bs ≡ words_of (drop n bs) → words_with t b bs ≡ words_of (drop (cond (not (not t)) (1 + n) 0) (b ∷ bs))
skipped_from true b bs n same rest = let one : 1 + n ≡ suc n = omega arith in rw one rest
skipped_from false b bs n same rest = same

-- spaces before the words change nothing
pub words_skipped : (bs : List ℕ) → words_of bs ≡ words_of (skip_spaces bs)
words_skipped [] = refl
words_skipped (b ∷ bs) = skipped_from (b == 32) b bs _ refl (words_skipped bs)

-- one byte before a text that has a word at its front
parted_from : (t u : Bool) (b c : ℕ) (cs : List ℕ) (n : ℕ) → (0 < n → words_of (c ∷ cs) ≡ take n (c ∷ cs) ∷ words_of (drop n (c ∷ cs))) → (u ≡ false → 0 < n) → (u ≡ true → n ≡ 0) → 0 < cond (not t) (1 + n) 0 → (if t then words_of (c ∷ cs) else (if u then (b ∷ []) ∷ words_of (c ∷ cs) else onto_first b (words_of (c ∷ cs)))) ≡ take (cond (not t) (1 + n) 0) (b ∷ c ∷ cs) ∷ words_of (drop (cond (not t) (1 + n) 0) (b ∷ c ∷ cs))
parted_from true u b c cs n rest more none some = absurd (omega arith)
parted_from false true b c cs n rest more none some =
    let zero_n : n ≡ 0 = none refl in
    rw zero_n refl
parted_from false false b c cs n rest more none some =
    let one : 1 + n ≡ suc n = omega arith in
    rw one (ap (onto_first b) (rest (more refl)))

-- the place of a space in a text is 0 exactly where it is the first byte
place_more : (t : Bool) (n : ℕ) → t ≡ false → 0 < cond (not t) (1 + n) 0
place_more false n e = omega arith
place_more true n e = cc

place_none : (t : Bool) (n : ℕ) → t ≡ true → cond (not t) (1 + n) 0 ≡ 0
place_none true n e = refl
place_none false n e = cc

-- one byte that is no space is one word
parted_alone : (t : Bool) (b : ℕ) → 0 < cond (not t) (1 + 0) 0 → (if t then [] else (b ∷ []) ∷ []) ≡ take (cond (not t) (1 + 0) 0) (b ∷ []) ∷ words_of (drop (cond (not t) (1 + 0) 0) (b ∷ []))
parted_alone true b some = absurd (omega arith)
parted_alone false b some = refl

-- a text that doesn't begin with a space begins with the word before its first space
pub words_parted : (bs : List ℕ) → 0 < position_or_len (λ b. b == 32) bs → words_of bs ≡ take (position_or_len (λ b. b == 32) bs) bs ∷ words_of (drop (position_or_len (λ b. b == 32) bs) bs)
words_parted [] some = absurd (omega arith)
words_parted (b ∷ []) some = parted_alone (b == 32) b some
words_parted (b ∷ c ∷ cs) some = parted_from (b == 32) (c == 32) b c cs _ (words_parted (c ∷ cs)) (place_more (c == 32) _) (place_none (c == 32) _) some

-- past the spaces stands no space
none_from : (t : Bool) (b : ℕ) (bs : List ℕ) (n : ℕ) → b == 32 ≡ t → (position_or_len (λ b. b == 32) (drop n bs) ≡ 0 → words_of bs ≡ []) → position_or_len (λ b. b == 32) (drop (cond (not (not t)) (1 + n) 0) (b ∷ bs)) ≡ 0 → words_with t b bs ≡ []
none_from true b bs n e rest none = let one : 1 + n ≡ suc n = omega arith in rest (subst (λ (k : ℕ). position_or_len (λ b. b == 32) (drop k (b ∷ bs)) ≡ 0) one none)
none_from false b bs n e rest none = absurd (omega (arith, place_more (b == 32) (position_or_len (λ b. b == 32) bs) e, none))

-- where no word stands past the spaces, there is none
pub words_none : (bs : List ℕ) → position_or_len (λ b. b == 32) (skip_spaces bs) ≡ 0 → words_of bs ≡ []
words_none [] e = refl
words_none (b ∷ bs) e = none_from (b == 32) b bs _ refl (words_none bs) e

-- the same as the code cuts the word and what stands behind it
pub words_at : (bs trimmed : List ℕ) (end : ℕ) → trimmed ≡ skip_spaces bs → end ≡ position_or_len (λ b. b == 32) trimmed → (end ≡ 0 → ⊥) → words_of bs ≡ take end trimmed ∷ words_of (take (length trimmed - end) (drop end trimmed))
words_at bs trimmed end skipped e some =
    let parted = words_parted trimmed (subst (λ (n : ℕ). 0 < n) e (omega (arith, some))) in
    rw (take_rest, words_skipped bs, sym skipped, e) parted

pub rest_at : (bs trimmed : List ℕ) (end : ℕ) → trimmed ≡ skip_spaces bs → end ≡ position_or_len (λ b. b == 32) trimmed → take (length trimmed - end) (drop end trimmed) ≡ past_word bs
rest_at bs trimmed end skipped e = rw (take_rest, e, skipped) refl

pub none_at : (bs trimmed : List ℕ) (end : ℕ) → trimmed ≡ skip_spaces bs → end ≡ position_or_len (λ b. b == 32) trimmed → end ≡ 0 → words_of bs ≡ []
none_at bs trimmed end skipped e none = words_none bs (subst (λ (xs : List ℕ). position_or_len (λ b. b == 32) xs ≡ 0) skipped (sym e ∙ none))
