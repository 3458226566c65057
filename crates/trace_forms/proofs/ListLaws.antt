-- Small laws on tests of lists, and on the last records.
use Rattle.std.proofs.Common.{◌≡◌, ◌∙◌, ℕ, suc, zero, ◌+◌, Bool, true, false, cond, ◌&&◌, ◌||◌, List, [], ◌∷◌, ◌++◌, drop, Option, Some, None, refl, ap, add-one}
use Rattle.std.specs.List.{list_all, list_any}
use Rattle.std.proofs.lemmas.List.Folds.{list_all-append, list_any-append}
use Rattle.unix_calls.specs.declared.event.Rec.{Rec}
use Rattle.call_journal.specs.Past.{last_event, event_before_last}

pub and_true : (b : Bool) → (b && true) ≡ b
and_true true = refl
and_true false = refl

pub and_none : (b : Bool) → (b && false) ≡ false
and_none true = refl
and_none false = refl

pub and_assoc : (a b d : Bool) → (a && b && d) ≡ (a && (b && d))
and_assoc true b d = refl
and_assoc false b d = refl

or_none : (b : Bool) → (b || false) ≡ b
or_none true = refl
or_none false = refl

or_turned : (a b : Bool) → (a || b) ≡ cond b true a
or_turned true true = refl
or_turned true false = refl
or_turned false true = refl
or_turned false false = refl

pub and_self : (b : Bool) → b ≡ (b && b)
and_self true = refl
and_self false = refl

pub cond_self : (b : Bool) → cond b true false ≡ b
cond_self true = refl
cond_self false = refl

-- an event of another kind
pub stays : (b x : Bool) → x ≡ cond (b && false) true x
stays true x = refl
stays false x = refl

-- one item more
pub any_more : {A : Type 0} (test : A → Bool) (xs : List A) (x : A) → list_any test (xs ++ x ∷ []) ≡ cond (test x) true (list_any test xs)
any_more test xs x =
    list_any-append test xs (x ∷ []) ∙ ap (λ b. list_any test xs || b) (or_none (test x)) ∙ or_turned (list_any test xs) (test x)

pub all_more : {A : Type 0} (test : A → Bool) (xs : List A) (x : A) → list_all test (xs ++ x ∷ []) ≡ (list_all test xs && test x)
all_more test xs x = list_all-append test xs (x ∷ []) ∙ ap (λ b. list_all test xs && b) (and_true (test x))

-- what stands behind the first item
abbrev pub tail_of : {A : Type 0} → List A → List A
tail_of [] = []
tail_of (x ∷ xs) = xs

tail_at : {A : Type 0} (i : ℕ) (xs : List A) → tail_of (drop i xs) ≡ drop (suc i) xs
tail_at zero [] = refl
tail_at zero (x ∷ xs) = refl
tail_at (suc i) [] = refl
tail_at (suc i) (x ∷ xs) = tail_at i xs

pub tail_drop : {A : Type 0} (i : ℕ) (xs : List A) → tail_of (drop i xs) ≡ drop (i + 1) xs
tail_drop i xs = rw add-one (tail_at i xs)

-- the last records of one more
pub last_more : (rs : List Rec) (r : Rec) → last_event (rs ++ r ∷ []) ≡ Some r.event
last_more [] r = refl
last_more (x ∷ []) r = refl
last_more (x ∷ y ∷ rest) r = last_more (y ∷ rest) r

pub before_more : (rs : List Rec) (r : Rec) → event_before_last (rs ++ r ∷ []) ≡ last_event rs
before_more [] r = refl
before_more (x ∷ []) r = refl
before_more (x ∷ y ∷ []) r = refl
before_more (x ∷ y ∷ z ∷ rest) r = before_more (y ∷ z ∷ rest) r
