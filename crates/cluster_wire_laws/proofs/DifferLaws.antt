-- Numbers that all stand in a list are, each counted once, no more than it is long.
use Rattle.std.proofs.Common.{arith, ◌≡◌, ℕ, ◌+◌, ◌≤◌, ◌==◌, Bool, true, false, ◌||◌, not, cond, List, [], ◌∷◌, length, refl, ap, ◌∙◌}
use Rattle.std.specs.List.{AllByRecursion, list_any}
use Rattle.std.proofs.lemmas.Bool.{eqb-true, or_right}
use Rattle.std.proofs.lemmas.Bool.Decides.{nat_tests}
use Rattle.sprite_ids.specs.Lists.{less}
use Rattle.sprite_ids.proofs.ListLaws.{each_weaken}
use Rattle.sprite_ids.proofs.OnceLaws.{or_false}
use Rattle.kernel_rpc.specs.Runs.{once_if}
use Rattle.cluster_wire_laws.specs.Replies.{how_many_differ}

-- the number stands in the list
abbrev pub IsAmong : List ℕ → ℕ → Type 0
IsAmong numbers n = list_any (λ m. m == n) numbers ≡ true

same_number : (n : ℕ) → (n == n) ≡ true
same_number n = grind (arith, nat_tests)

-- each number of a list stands in it
pub each_among : (numbers : List ℕ) → AllByRecursion (IsAmong numbers) numbers
each_among [] = tt
each_among (n ∷ ns) = (ap (λ b. b || list_any (λ m. m == n) ns) (same_number n), each_weaken (IsAmong ns) (IsAmong (n ∷ ns)) ns (λ m h. or_right (n == m) (list_any (λ k. k == m) ns) h) (each_among ns))

-- without one number the others still stand there
still_by : (n m x : ℕ) (xs : List ℕ) → (m == n) ≡ false → (IsAmong xs m → IsAmong (less (λ k. k == n) xs) m) → (first same : Bool) → (x == n) ≡ first → (x == m) ≡ same → (same || list_any (λ k. k == m) xs) ≡ true → list_any (λ k. k == m) (cond first xs (x ∷ less (λ k. k == n) xs)) ≡ true
still_by n m x xs apart later true true at is h =
    let one = eqb-true x n at in
    let other = eqb-true x m is in
    let both : (m == n) ≡ true = grind (arith, nat_tests) in
    absurd (cc)
still_by n m x xs apart later true false at is h = h
still_by n m x xs apart later false true at is h = ap (λ b. b || list_any (λ k. k == m) (less (λ k. k == n) xs)) is
still_by n m x xs apart later false false at is h = ap (λ b. b || list_any (λ k. k == m) (less (λ k. k == n) xs)) is ∙ later h

still_among : (n m : ℕ) (numbers : List ℕ) → (m == n) ≡ false → IsAmong numbers m → IsAmong (less (λ k. k == n) numbers) m
still_among n m [] apart h = h
still_among n m (x ∷ xs) apart h = still_by n m x xs apart (still_among n m xs apart) (x == n) (x == m) refl refl h

others_among : (n : ℕ) (numbers ns : List ℕ) → list_any (λ m. m == n) ns ≡ false → AllByRecursion (IsAmong numbers) ns → AllByRecursion (IsAmong (less (λ k. k == n) numbers)) ns
others_among n numbers [] none each = tt
others_among n numbers (m ∷ ns) none each =
    let parts = or_false (m == n) (list_any (λ k. k == n) ns) none in
    (still_among n m numbers parts.0 each.0, others_among n numbers ns parts.1 each.1)

-- and it is one shorter
shorter_by : (n x : ℕ) (xs : List ℕ) → (IsAmong xs n → 1 + length (less (λ k. k == n) xs) ≤ length xs) → (b : Bool) → (b || list_any (λ k. k == n) xs) ≡ true → 1 + length (cond b xs (x ∷ less (λ k. k == n) xs)) ≤ 1 + length xs
shorter_by n x xs later true h = omega arith
shorter_by n x xs later false h = (let rest = later h in omega arith)

shorter : (n : ℕ) (numbers : List ℕ) → IsAmong numbers n → 1 + length (less (λ k. k == n) numbers) ≤ length numbers
shorter n [] h = absurd (cc)
shorter n (x ∷ xs) h = (let one = shorter_by n x xs (shorter n xs) (x == n) h in omega arith)

differ_by : (n : ℕ) (ns numbers : List ℕ) → AllByRecursion (IsAmong numbers) (n ∷ ns) → ((numbers : List ℕ) → AllByRecursion (IsAmong numbers) ns → how_many_differ ns ≤ length numbers) → (b : Bool) → list_any (λ m. m == n) ns ≡ b → once_if (not b) + how_many_differ ns ≤ length numbers
differ_by n ns numbers each again true is = (let rest = again numbers each.1 in omega arith)
differ_by n ns numbers each again false is =
    (let rest = again (less (λ k. k == n) numbers) (others_among n numbers ns is each.1) in
    let one = shorter n numbers each.0 in omega arith)

pub few_differ : (ns numbers : List ℕ) → AllByRecursion (IsAmong numbers) ns → how_many_differ ns ≤ length numbers
few_differ [] numbers each = omega arith
few_differ (n ∷ ns) numbers each = differ_by n ns numbers each (few_differ ns) (list_any (λ m. m == n) ns) refl
