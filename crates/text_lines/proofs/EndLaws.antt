-- Where lines end.
use Rattle.std.proofs.Common.{◌≡◌, ℕ, suc, ◌+◌, ◌-◌, ◌<◌, ◌≤◌, ◌==◌, List, [], ◌∷◌, length, take, drop, Bool, true, false, cond, not, refl, ap, subst, arith}
use Rattle.std.specs.Bool.{if◌then◌else◌}
use Rattle.std.specs.List.{position_or_len, onto_first}
use Rattle.std.proofs.lemmas.List.{take_rest, drop_all}
use Rattle.text_lines.specs.Lines.{lines_of}

-- the text as its only line, where it isn't empty
abbrev pub one_line : List ℕ → List (List ℕ)
one_line [] = []
one_line (b ∷ bs) = (b ∷ bs) ∷ []

-- one byte before a text whose first byte 10 is at n
line_from : (t : Bool) (b : ℕ) (bs : List ℕ) (n : ℕ) → (n < length bs → lines_of bs ≡ take n bs ∷ lines_of (drop (n + 1) bs)) → cond (not t) (1 + n) 0 < suc (length bs) → (if t then [] ∷ lines_of bs else onto_first b (lines_of bs)) ≡ take (cond (not t) (1 + n) 0) (b ∷ bs) ∷ lines_of (drop (cond (not t) (1 + n) 0 + 1) (b ∷ bs))
line_from true b bs n rest within = refl
line_from false b bs n rest within =
    let one : 1 + n ≡ suc n = omega arith in
    let two : 1 + n + 1 ≡ suc (n + 1) = omega arith in
    rw (two, one) (ap (onto_first b) (rest (omega arith)))

-- a text with a byte 10 begins with the line before it
pub line_found : (text : List ℕ) → position_or_len (λ b. b == 10) text < length text → lines_of text ≡ take (position_or_len (λ b. b == 10) text) text ∷ lines_of (drop (position_or_len (λ b. b == 10) text + 1) text)
line_found [] within = absurd (omega arith)
line_found (b ∷ bs) within = line_from (b == 10) b bs _ (line_found bs) within

-- one byte before a text with no byte 10, which is one line or none
alone_from : (t : Bool) (b : ℕ) (bs : List ℕ) (n : ℕ) → (n ≡ length bs → lines_of bs ≡ one_line bs) → cond (not t) (1 + n) 0 ≡ suc (length bs) → (if t then [] ∷ lines_of bs else onto_first b (lines_of bs)) ≡ (b ∷ bs) ∷ []
alone_from true b bs n rest e = absurd (omega arith)
alone_from false b [] n rest e = refl
alone_from false b (c ∷ cs) n rest e = ap (onto_first b) (rest (omega arith))

-- a text with no byte 10 is one line
pub line_alone : (text : List ℕ) → position_or_len (λ b. b == 10) text ≡ length text → lines_of text ≡ one_line text
line_alone [] e = refl
line_alone (b ∷ bs) e = alone_from (b == 10) b bs _ (line_alone bs) e

-- the same of a line that ends at `end`, with what stands behind it as the code cuts it
pub line_at : (text : List ℕ) (end : ℕ) → end ≡ position_or_len (λ b. b == 10) text → end < length text → lines_of text ≡ take end text ∷ lines_of (take (length text - (end + 1)) (drop (end + 1) text))
line_at text end e within =
    let found = line_found text (subst (λ (n : ℕ). n < length text) e within) in
    rw (take_rest, e) found

-- and of a last line with no byte 10
pub line_whole : (text : List ℕ) (end : ℕ) → end ≡ position_or_len (λ b. b == 10) text → end ≤ length text → length text ≤ end → 0 < length text → lines_of text ≡ text ∷ lines_of (take (length text - length text) (drop (length text) text))
line_whole [] end e most least some = absurd (omega arith)
line_whole (b ∷ bs) end e most least some =
    let alone = line_alone (b ∷ bs) (omega arith) in
    rw (take_rest, drop_all (length (b ∷ bs)) (b ∷ bs) (omega arith)) alone
