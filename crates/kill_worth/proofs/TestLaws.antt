-- Small laws on tests.
use Rattle.std.proofs.Common.{◌≡◌, ◌∙◌, ℕ, ◌==◌, Bool, true, false, cond, ◌&&◌, ◌||◌, List, [], ◌∷◌, ◌++◌, refl, sym, ap}
use Rattle.std.specs.List.{list_any}
use Rattle.std.proofs.lemmas.List.Folds.{list_any-append}
use Rattle.std.proofs.lemmas.Bool.{eqb-true, eq-eqb}
use Rattle.trace_laws.specs.SomeLaws.{or_false}

pub and_false : (b : Bool) → (b && false) ≡ false
and_false true = refl
and_false false = refl

pub and_assoc : (a b d : Bool) → (a && (b && d)) ≡ (a && b && d)
and_assoc true b d = refl
and_assoc false b d = refl

or_turned : (a b : Bool) → (a || b) ≡ cond b true a
or_turned true true = refl
or_turned true false = refl
or_turned false true = refl
or_turned false false = refl

-- one item more
pub any_more : {A : Type 0} (test : A → Bool) (xs : List A) (x : A) → list_any test (xs ++ x ∷ []) ≡ cond (test x) true (list_any test xs)
any_more test xs x =
    list_any-append test xs (x ∷ []) ∙ ap (λ b. list_any test xs || b) (or_false (test x)) ∙ or_turned (list_any test xs) (test x)

-- two tests, each of which gives the other
pub both_true : (s t : Bool) → (s ≡ true → t ≡ true) → (t ≡ true → s ≡ true) → s ≡ t
both_true true t f g = sym (f refl)
both_true false true f g = g refl
both_true false false f g = refl

pub same_turned : (a b : ℕ) → (a == b) ≡ (b == a)
same_turned a b = both_true (a == b) (b == a) (λ e. eq-eqb b a (sym (eqb-true a b e))) (λ e. eq-eqb a b (sym (eqb-true b a e)))
