-- Words that spell no command.
use Rattle.std.proofs.Common.{arith, codes, ◌≡◌, ℕ, ◌+◌, ◌-◌, ◌*◌, ◌≤◌, Bool, true, false, ◌&&◌, List, [], ◌∷◌, None, refl, sym, ap, subst, ◌∙◌}
use Rattle.std.specs.List.{list_all}
use Rattle.sprite_words.specs.declared.command.Command.{Command}
use Rattle.sprite_words.specs.declared.command.Command.TheVariants as command
use Rattle.sprite_words.specs.Words.{IsCount, IsCountOf, IsNext, IsNumber, IsNumberOf, IsSpelled, Spells, is_digit, value_from}

only_word : (a b : List ℕ) → a ∷ [] ≡ b ∷ [] → a ≡ b
only_word a b e = cc

-- one word that is none of these
pub no_word : (word : List ℕ) → (word ≡ codes "run" → ⊥) → (word ≡ codes "history" → ⊥) → (word ≡ codes "check" → ⊥) → (word ≡ codes "audit" → ⊥) → (word ≡ codes "trace" → ⊥) → (word ≡ codes "frames" → ⊥) → (word ≡ codes "file" → ⊥) → (word ≡ codes "lend" → ⊥) → (some : Command) → IsSpelled some (word ∷ []) → ⊥
no_word word run history check audit trace frames file lend command.Run is = run (only_word word (codes "run") is)
no_word word run history check audit trace frames file lend (command.RunSeed seed) is = absurd (cc (is.words_are))
no_word word run history check audit trace frames file lend command.RunStats is = absurd (cc)
no_word word run history check audit trace frames file lend command.History is = history (only_word word (codes "history") is)
no_word word run history check audit trace frames file lend (command.Load count) is = absurd (cc (is.words_are))
no_word word run history check audit trace frames file lend command.Check is = check (only_word word (codes "check") is)
no_word word run history check audit trace frames file lend command.Audit is = audit (only_word word (codes "audit") is)
no_word word run history check audit trace frames file lend command.Trace is = trace (only_word word (codes "trace") is)
no_word word run history check audit trace frames file lend command.Frames is = frames (only_word word (codes "frames") is)
no_word word run history check audit trace frames file lend command.File is = file (only_word word (codes "file") is)
no_word word run history check audit trace frames file lend command.Lend is = lend (only_word word (codes "lend") is)

first_word : (a b c x y z : List ℕ) → a ∷ b ∷ c ∷ [] ≡ x ∷ y ∷ z ∷ [] → a ≡ x
first_word a b c x y z e = cc

second_word : (a b c x y z : List ℕ) → a ∷ b ∷ c ∷ [] ≡ x ∷ y ∷ z ∷ [] → b ≡ y
second_word a b c x y z e = cc

third_word : (a b c x y z : List ℕ) → a ∷ b ∷ c ∷ [] ≡ x ∷ y ∷ z ∷ [] → c ≡ z
third_word a b c x y z e = cc

first_of_two : (a b x y : List ℕ) → a ∷ b ∷ [] ≡ x ∷ y ∷ [] → a ≡ x
first_of_two a b x y e = cc

second_of_two : (a b x y : List ℕ) → a ∷ b ∷ [] ≡ x ∷ y ∷ [] → b ≡ y
second_of_two a b x y e = cc

-- two words that are neither those of the counts nor begin as a load
pub no_pair : (a b : List ℕ) → ((a ≡ codes "run") × (b ≡ codes "--stats") → ⊥) → (a ≡ codes "load" → ⊥) → (some : Command) → IsSpelled some (a ∷ b ∷ []) → ⊥
no_pair a b stats load command.Run is = absurd (cc)
no_pair a b stats load (command.RunSeed seed) is = absurd (cc (is.words_are))
no_pair a b stats load command.RunStats is = stats (first_of_two a b (codes "run") (codes "--stats") is, second_of_two a b (codes "run") (codes "--stats") is)
no_pair a b stats load command.History is = absurd (cc)
no_pair a b stats load (command.Load count) is = load (first_of_two a b (codes "load") is.digits is.words_are)
no_pair a b stats load command.Check is = absurd (cc)
no_pair a b stats load command.Audit is = absurd (cc)
no_pair a b stats load command.Trace is = absurd (cc)
no_pair a b stats load command.Frames is = absurd (cc)
no_pair a b stats load command.File is = absurd (cc)
no_pair a b stats load command.Lend is = absurd (cc)

-- or end with no count
pub no_load : (a b : List ℕ) → ((a ≡ codes "run") × (b ≡ codes "--stats") → ⊥) → IsCountOf b None → (some : Command) → IsSpelled some (a ∷ b ∷ []) → ⊥
no_load a b stats none command.Run is = absurd (cc)
no_load a b stats none (command.RunSeed seed) is = absurd (cc (is.words_are))
no_load a b stats none command.RunStats is = stats (first_of_two a b (codes "run") (codes "--stats") is, second_of_two a b (codes "run") (codes "--stats") is)
no_load a b stats none command.History is = absurd (cc)
no_load a b stats none (command.Load count) is = none count (subst (λ (digits : List ℕ). IsCount digits count) (sym (second_of_two a b (codes "load") is.digits is.words_are)) is.counts)
no_load a b stats none command.Check is = absurd (cc)
no_load a b stats none command.Audit is = absurd (cc)
no_load a b stats none command.Trace is = absurd (cc)
no_load a b stats none command.Frames is = absurd (cc)
no_load a b stats none command.File is = absurd (cc)
no_load a b stats none command.Lend is = absurd (cc)

-- what spells no number spells no count
pub no_count : (digits : List ℕ) → IsNumberOf digits None → IsCountOf digits None
no_count digits none count is = none count is.number

-- nor does what spells a number that is none
pub far_count : (digits : List ℕ) (number : ℕ) → IsNumber digits number → ((1 ≤ number) × (number ≤ 64) → ⊥) → IsCountOf digits None
far_count digits number is far count counts = far (subst (λ n. (1 ≤ n) × (n ≤ 64)) (counts.number.spells.is ∙ sym is.spells.is) (counts.low, counts.high))

-- three words that don't begin so
pub no_first : (a b c : List ℕ) → (a ≡ codes "run" → ⊥) → (some : Command) → IsSpelled some (a ∷ b ∷ c ∷ []) → ⊥
no_first a b c other command.Run is = absurd (cc)
no_first a b c other (command.RunSeed seed) is = other (first_word a b c (codes "run") (codes "--seed") is.digits is.words_are)
no_first a b c other command.RunStats is = absurd (cc)
no_first a b c other command.History is = absurd (cc)
no_first a b c other (command.Load count) is = absurd (cc (is.words_are))
no_first a b c other command.Check is = absurd (cc)
no_first a b c other command.Audit is = absurd (cc)
no_first a b c other command.Trace is = absurd (cc)
no_first a b c other command.Frames is = absurd (cc)
no_first a b c other command.File is = absurd (cc)
no_first a b c other command.Lend is = absurd (cc)

pub no_second : (a b c : List ℕ) → (b ≡ codes "--seed" → ⊥) → (some : Command) → IsSpelled some (a ∷ b ∷ c ∷ []) → ⊥
no_second a b c other command.Run is = absurd (cc)
no_second a b c other (command.RunSeed seed) is = other (second_word a b c (codes "run") (codes "--seed") is.digits is.words_are)
no_second a b c other command.RunStats is = absurd (cc)
no_second a b c other command.History is = absurd (cc)
no_second a b c other (command.Load count) is = absurd (cc (is.words_are))
no_second a b c other command.Check is = absurd (cc)
no_second a b c other command.Audit is = absurd (cc)
no_second a b c other command.Trace is = absurd (cc)
no_second a b c other command.Frames is = absurd (cc)
no_second a b c other command.File is = absurd (cc)
no_second a b c other command.Lend is = absurd (cc)

-- or end with no number
pub no_number : (a b c : List ℕ) → IsNumberOf c None → (some : Command) → IsSpelled some (a ∷ b ∷ c ∷ []) → ⊥
no_number a b c none command.Run is = absurd (cc)
no_number a b c none (command.RunSeed seed) is = none seed (subst (λ (digits : List ℕ). IsNumber digits seed) (sym (third_word a b c (codes "run") (codes "--seed") is.digits is.words_are)) is.number)
no_number a b c none command.RunStats is = absurd (cc)
no_number a b c none command.History is = absurd (cc)
no_number a b c none (command.Load count) is = absurd (cc (is.words_are))
no_number a b c none command.Check is = absurd (cc)
no_number a b c none command.Audit is = absurd (cc)
no_number a b c none command.Trace is = absurd (cc)
no_number a b c none command.Frames is = absurd (cc)
no_number a b c none command.File is = absurd (cc)
no_number a b c none command.Lend is = absurd (cc)

-- what digits spell is no less than what stands before them
pub grows : (value : ℕ) (digits : List ℕ) → value ≤ value_from value digits
grows value [] = omega arith
grows value (digit ∷ digits) = (let rest = grows (value * 10 + (digit - 48)) digits in omega arith)

-- digits of which one can't be the next
pub no_next : (value digit : ℕ) (rest digits : List ℕ) → list_all is_digit digits ≡ list_all is_digit (digit ∷ rest) → value_from value (digit ∷ rest) ≡ value_from 0 digits → IsNext value (digit ∷ []) None → IsNext 0 digits None
no_next value digit rest digits all same none number spells =
    (let here = grows (value * 10 + (digit - 48)) rest in
    let is = spells.is in
    let fits = spells.fits in
    none (value * 10 + (digit - 48)) (record { are_digits = first_true (is_digit digit) (list_all is_digit rest) (sym all ∙ spells.are_digits); is = refl; fits = omega arith }))
  where
    first_true : (a b : Bool) → (a && b) ≡ true → (a && true) ≡ true
    first_true true b e = refl
    first_true false b e = absurd (cc)

-- a digit that is the next
pub digits_stay : (value digit : ℕ) (rest digits : List ℕ) (more : ℕ) → list_all is_digit digits ≡ list_all is_digit (digit ∷ rest) → Spells value (digit ∷ []) more → list_all is_digit digits ≡ list_all is_digit rest
digits_stay value digit rest digits more all next = all ∙ behind_true (is_digit digit) (list_all is_digit rest) next.are_digits
  where
    behind_true : (a b : Bool) → (a && true) ≡ true → (a && b) ≡ b
    behind_true true b e = refl
    behind_true false b e = absurd (cc)

pub value_stays : (value digit : ℕ) (rest digits : List ℕ) (more : ℕ) → value_from value (digit ∷ rest) ≡ value_from 0 digits → Spells value (digit ∷ []) more → value_from more rest ≡ value_from 0 digits
value_stays value digit rest digits more same next = ap (λ n. value_from n rest) next.is ∙ same
