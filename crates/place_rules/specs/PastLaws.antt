-- What was met by some record so far, one record later.
use Rattle.std.proofs.Common.{◌≡◌, ◌∙◌, Bool, true, false, ◌||◌, List, [], ◌∷◌, ◌++◌, refl, sym, ap}
use Rattle.unix_calls.specs.declared.description.Description.{Description}
use Rattle.unix_calls.specs.declared.event.Rec.{Rec}
use Rattle.call_journal.specs.Past.{Past, no_past, past_with, past_from, past_of, some_from, some_record}
use Rattle.place_rules.specs.Pasts.{IsWhole}

-- ---- what stands before a place is what its records tell

past_on : (c : Description) (past : Past) (rs : List Rec) (r : Rec) → past_from c past (rs ++ r ∷ []) ≡ past_with c r (past_from c past rs)
past_on c past [] r = refl
past_on c past (x ∷ xs) r = past_on c (past_with c x past) xs r

pub whole_on : (c : Description) (past : Past) (rec : Rec) → IsWhole c past → IsWhole c (past_with c rec past)
whole_on c past rec whole = ap (past_with c rec) whole ∙ sym (past_on c (no_past c) past.records rec)

-- ---- some record

or_grows : (a b d : Bool) → ((a || b) || d) ≡ (a || (b || d))
or_grows true b d = refl
or_grows false b d = refl

some_on : (c : Description) (test : Past → Rec → List Rec → Bool) (past : Past) (rs : List Rec) (r : Rec) → some_from c test past (rs ++ r ∷ []) ≡ (some_from c (λ p x rest. test p x (rest ++ r ∷ [])) past rs || (test (past_from c past rs) r [] || false))
some_on c test past [] r = refl
some_on c test past (x ∷ xs) r =
    ap (λ b. test past x (xs ++ r ∷ []) || b) (some_on c test (past_with c x past) xs r)
    ∙ sym (or_grows (test past x (xs ++ r ∷ [])) (some_from c (λ p y rest. test p y (rest ++ r ∷ [])) (past_with c x past) xs) (test (past_from c past (x ∷ xs)) r [] || false))

or_last : (a b : Bool) → (a || (b || false)) ≡ (a || b)
or_last a true = refl
or_last a false = refl

-- of a place's records and one more
pub some_more : (c : Description) (test : Past → Rec → List Rec → Bool) (past : Past) (rec : Rec) → IsWhole c past → some_record c test (past.records ++ rec ∷ []) ≡ (some_record c (λ p x rest. test p x (rest ++ rec ∷ [])) past.records || test past rec [])
some_more c test past rec whole =
    some_on c test (no_past c) past.records rec
    ∙ or_last (some_record c (λ p x rest. test p x (rest ++ rec ∷ [])) past.records) (test (past_of c past.records) rec [])
    ∙ ap (λ p. some_record c (λ p x rest. test p x (rest ++ rec ∷ [])) past.records || test p rec []) (sym whole)
