-- Small laws on tests of lists.
use Rattle.std.proofs.Common.{◌≡◌, ◌∙◌, ℕ, ◌+◌, Bool, true, false, cond, ◌&&◌, ◌||◌, List, [], ◌∷◌, ◌++◌, count_by, refl, ap, ap₂}
use Rattle.std.specs.List.{list_any}
use Rattle.sprite_ids.specs.Lists.{one_if}
use Rattle.unix_calls.specs.declared.event.Rec.{Rec}
use Rattle.call_journal.specs.Past.{since_last}
use Rattle.call_journal.proofs.GrowthLaws.{look_backs_grow}
use Rattle.trace_rules.specs.Lists.{count_more}

-- tests that say the same of each item
pub any_same : {A : Type 0} (p q : A → Bool) (xs : List A) → ((x : A) → p x ≡ q x) → list_any p xs ≡ list_any q xs
any_same p q [] same = refl
any_same p q (x ∷ xs) same = ap₂ (λ a b. a || b) (same x) (any_same p q xs same)

or_between : (a b c d : Bool) → ((a || b) || (c || d)) ≡ ((a || c) || (b || d))
or_between true b true d = refl
or_between true b false d = refl
or_between false true true d = refl
or_between false true false d = refl
or_between false false true d = refl
or_between false false false d = refl

-- one test or the other
pub any_either : {A : Type 0} (p q : A → Bool) (xs : List A) → list_any (λ x. p x || q x) xs ≡ (list_any p xs || list_any q xs)
any_either p q [] = refl
any_either p q (x ∷ xs) = ap (λ b. (p x || q x) || b) (any_either p q xs) ∙ or_between (p x) (q x) (list_any p xs) (list_any q xs)

-- how many, with one record more
pub count_since : (begins test : Rec → Bool) (records : List Rec) (rec : Rec) → count_by test (since_last begins (records ++ rec ∷ [])) ≡ cond {A = ℕ} (begins rec) 0 (count_by test (since_last begins records) + one_if (test rec))
count_since begins test records rec = ap (count_by test) (look_backs_grow.sinces begins records rec) ∙ by (begins rec)
  where
    by : (b : Bool) → count_by test (cond {A = List Rec} b [] (since_last begins records ++ rec ∷ [])) ≡ cond {A = ℕ} b 0 (count_by test (since_last begins records) + one_if (test rec))
    by true = refl
    by false = count_more test (since_last begins records) rec

-- one of two things happens at a kernel
pub and_either : (b p q : Bool) → ((b && p) || (b && q)) ≡ (b && (p || q))
and_either true p q = refl
and_either false p q = refl
