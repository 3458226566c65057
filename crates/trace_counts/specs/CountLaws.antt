-- Counting from the front: those so far and those of the rest are all.
use Rattle.std.proofs.Common.{◌≡◌, ◌∙◌, ℕ, ◌+◌, ◌<◌, Bool, List, length, get_or, drop, count_by, ap}
use Rattle.sprite_ids.specs.Lists.{one_if}
use Rattle.trace_rules.specs.Lists.{counted_on, cut_at}

-- one place further
pub counted_next : {A : Type 0} (test : A → Bool) (xs : List A) (place : ℕ) (x : A) (count next all : ℕ) (b : Bool) → place < length xs → x ≡ get_or xs place x → count + count_by test (drop place xs) ≡ all → next ≡ count + one_if b → b ≡ test x → next + count_by test (drop (place + 1) xs) ≡ all
counted_next test xs place x count next all b short is so_far more meets =
    counted_on test count next all x (drop place xs) (drop (place + 1) xs) (cut_at xs place x x short is) so_far (more ∙ ap (λ (m : Bool). count + one_if m) meets)
