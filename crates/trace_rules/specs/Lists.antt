-- Small laws on tests, of lists and of what may be there, and on counts.
use Rattle.std.proofs.Common.{◌≡◌, ◌∙◌, ℕ, suc, ◌+◌, ◌<◌, Bool, true, false, cond, ◌&&◌, ◌||◌, List, [], ◌∷◌, ◌++◌, Option, Some, length, get_or, drop, nat_le, count_by, refl, sym, ap, arith, le-leb, add-one, drop-cons}
use Rattle.std.specs.List.{list_any, list_all}
use Rattle.std.proofs.lemmas.List.Sums.{sum_by_push, sum_by-cons}
use Rattle.std.proofs.lemmas.List.Folds.{list_any-append, list_all-append}
use Rattle.sprite_ids.specs.Lists.{one_if}
use Rattle.unix_calls.specs.declared.event.Rec.{Rec}
use Rattle.call_journal.specs.Past.{since_last}
use Rattle.call_journal.proofs.GrowthLaws.{look_backs_grow}

pub or_false : (b : Bool) → (b || false) ≡ b
or_false true = refl
or_false false = refl

-- one or the other, the second one first
pub or_turned : (a b : Bool) → (a || b) ≡ cond b true a
or_turned true true = refl
or_turned true false = refl
or_turned false true = refl
or_turned false false = refl

pub and_true : (b : Bool) → (b && true) ≡ b
and_true true = refl
and_true false = refl

pub and_false : (b : Bool) → (b && false) ≡ false
and_false true = refl
and_false false = refl

pub and_assoc : (a b d : Bool) → (a && b && d) ≡ (a && (b && d))
and_assoc true b d = refl
and_assoc false b d = refl

-- whether one of some items, or one more, meets a test
pub any_more : {A : Type 0} (test : A → Bool) (xs : List A) (x : A) → list_any test (xs ++ x ∷ []) ≡ cond (test x) true (list_any test xs)
any_more test xs x =
    list_any-append test xs (x ∷ []) ∙ ap (λ b. list_any test xs || b) (or_false (test x)) ∙ or_turned (list_any test xs) (test x)

-- whether all items meet a test, with one item more
pub all_more : {A : Type 0} (test : A → Bool) (xs : List A) (x : A) → list_all test (xs ++ x ∷ []) ≡ (list_all test xs && test x)
all_more test xs x = list_all-append test xs (x ∷ []) ∙ ap (λ b. list_all test xs && b) (and_true (test x))

-- an item since the last of a kind, with one record more
pub any_since : (begins test : Rec → Bool) (records : List Rec) (rec : Rec) → list_any test (since_last begins (records ++ rec ∷ [])) ≡ cond (begins rec) false (cond (test rec) true (list_any test (since_last begins records)))
any_since begins test records rec = ap (list_any test) (look_backs_grow.sinces begins records rec) ∙ by (begins rec)
  where
    by : (b : Bool) → list_any test (cond {A = List Rec} b [] (since_last begins records ++ rec ∷ [])) ≡ cond b false (cond (test rec) true (list_any test (since_last begins records)))
    by true = refl
    by false = any_more test (since_last begins records) rec

-- a test that decides nothing
pub same_both : {A : Type 0} (b : Bool) (x : A) → x ≡ cond b x x
same_both true x = refl
same_both false x = refl

-- what is read of an item that two tests together put in
pub taken : {A B : Type 0} (f : Option A → B) (b d : Bool) (x : A) (o : Option A) → f (cond (b && d) (Some x) o) ≡ cond b (cond d (f (Some x)) (f o)) (f o)
taken f true true x o = refl
taken f true false x o = refl
taken f false d x o = refl

-- the item at a place, and those behind it
pub cut_at : {A : Type 0} (xs : List A) (place : ℕ) (x d : A) → place < length xs → x ≡ get_or xs place d → drop place xs ≡ x ∷ drop (place + 1) xs
cut_at {A = A} xs place x d short is = rw add-one (drop-cons xs place d short ∙ ap (λ (y : A). y ∷ drop (suc place) xs) (sym is))

-- ---- counts

pub no_more : (n : ℕ) → n ≡ n + 0
no_more n = omega arith

none_before : (n : ℕ) → 0 + n ≡ n
none_before n = omega arith

one_by : (b : Bool) → cond {A = ℕ} b 1 0 ≡ one_if b
one_by true = refl
one_by false = refl

-- how many items meet a test, with one item more
pub count_more : {A : Type 0} (test : A → Bool) (xs : List A) (x : A) → count_by test (xs ++ x ∷ []) ≡ count_by test xs + one_if (test x)
count_more {A = A} test xs x = sum_by_push (λ (y : A). cond {A = ℕ} (test y) 1 0) xs x ∙ ap (λ n. count_by test xs + n) (one_by (test x))

count_first : {A : Type 0} (test : A → Bool) (x : A) (xs : List A) → count_by test (x ∷ xs) ≡ one_if (test x) + count_by test xs
count_first {A} test x xs = sum_by-cons (λ (y : A). cond {A = ℕ} (test y) 1 0) x xs ∙ ap (λ n. n + count_by test xs) (one_by (test x))

-- counting from the front: one item further, and behind the last one
pub counted_on : {A : Type 0} (test : A → Bool) (count next all : ℕ) (x : A) (xs rest : List A) → xs ≡ x ∷ rest → count + count_by test xs ≡ all → next ≡ count + one_if (test x) → next + count_by test rest ≡ all
counted_on test count next all x xs rest cut so_far more =
    let first : count_by test xs ≡ one_if (test x) + count_by test rest = ap (count_by test) cut ∙ count_first test x rest in
    omega (arith, first, so_far, more)

pub counted_all : {A : Type 0} (test : A → Bool) (count all : ℕ) (xs : List A) → xs ≡ [] → count + count_by test xs ≡ all → count ≡ all
counted_all test count all xs none so_far =
    let nothing : count_by test xs ≡ 0 = ap (count_by test) none in
    omega (arith, nothing, so_far)

-- some item meets a test exactly where at least one does
pub any_counted : {A : Type 0} (test : A → Bool) (xs : List A) → nat_le 1 (count_by test xs) ≡ list_any test xs
any_counted test [] = refl
any_counted {A = A} test (x ∷ xs) = ap (nat_le 1) (sum_by-cons (λ (y : A). cond {A = ℕ} (test y) 1 0) x xs) ∙ by (test x) (any_counted test xs)
  where
    by : (b : Bool) → nat_le 1 (count_by test xs) ≡ list_any test xs → nat_le 1 (cond {A = ℕ} b 1 0 + count_by test xs) ≡ (b || list_any test xs)
    by true rest = le-leb 1 (1 + count_by test xs) (omega arith)
    by false rest = ap (nat_le 1) (none_before (count_by test xs)) ∙ rest
