-- The candidates of more kernels begin with those of fewer.
use Rattle.std.proofs.Common.{◌≡◌, ℕ, zero, suc, ◌+◌, ◌-◌, ◌<◌, ◌≤◌, ◌≢◌, ◌⊎◌, Bool, true, false, List, [], ◌∷◌, ◌++◌, length, Some, None, slice_get, slice_set, refl, ap, ◌∙◌, subst, arith, rules, length-append, inl, inr, get_or}
use Rattle.std.proofs.lemmas.Option.{get_or_from_slice_get}
use mathlib.Core.Logic.{dite}
use native.Mathlib.Decide.{ℕ_discrete}
use Rattle.kernel_threads.specs.declared.candidates.Candidate.{Candidate}
use Rattle.kernel_threads.specs.Steps.{MayMove}
use Rattle.kernel_threads.specs.Candidates.{candidates_at, candidates_of, Counts}
use Rattle.sprite_ids.proofs.ListLaws.{get_set_same, get_set_other}

-- an item of a list is there with more behind it
in_front : {A : Type 0} (xs ys : List A) (i : ℕ) (x : A) → slice_get xs i ≡ Some x → slice_get (xs ++ ys) i ≡ Some x
in_front [] ys i x e = absurd (none_is x e)
  where
    none_is : {A : Type 0} (x : A) → None ≡ Some x → ⊥
    none_is x e = search (rules, e)
in_front (y ∷ xs) ys zero x e = e
in_front (y ∷ xs) ys (suc i) x e = in_front xs ys i x e

-- and an item of what is behind
behind : {A : Type 0} (xs ys : List A) (i place : ℕ) → place ≡ length xs + i → slice_get (xs ++ ys) place ≡ slice_get ys i
behind [] ys i place e = ap (λ n. slice_get ys n) (let p : place ≡ i = omega arith in p)
behind (x ∷ xs) ys i zero e = absurd (omega arith)
behind (x ∷ xs) ys i (suc place) e = behind xs ys i place (omega arith)

with_more : {C : Type 0} (choices_at : ℕ → List C) (has_job_at : ℕ → Bool) (n m i : ℕ) (t : Candidate C) → n ≤ m → slice_get (candidates_of choices_at has_job_at n) i ≡ Some t → slice_get (candidates_of choices_at has_job_at m) i ≡ Some t
with_more choices_at has_job_at n zero i t low e = subst (λ k. slice_get (candidates_of choices_at has_job_at k) i ≡ Some t) (let p : n ≡ 0 = omega arith in p) e
with_more choices_at has_job_at n (suc m) i t low e = dite (ℕ_discrete n (suc m))
    (λ same. subst (λ k. slice_get (candidates_of choices_at has_job_at k) i ≡ Some t) same e)
    (λ apart. in_front (candidates_of choices_at has_job_at m) (candidates_at (suc m) (choices_at (suc m)) (has_job_at (suc m))) i t (with_more choices_at has_job_at n m i t (omega arith) e))

-- a candidate of a kernel is one of all
pub candidate_there : {C : Type 0} (choices_at : ℕ → List C) (has_job_at : ℕ → Bool) (before kernels left place : ℕ) (t : Candidate C) → before < kernels → place ≡ length (candidates_of choices_at has_job_at before) + left
    → slice_get (candidates_at (before + 1) (choices_at (before + 1)) (has_job_at (before + 1))) left ≡ Some t → slice_get (candidates_of choices_at has_job_at kernels) place ≡ Some t
candidate_there choices_at has_job_at before kernels left place t low is e =
    let here : slice_get (candidates_at (suc before) (choices_at (suc before)) (has_job_at (suc before))) left ≡ Some t = subst (λ k. slice_get (candidates_at k (choices_at k) (has_job_at k)) left ≡ Some t) (let p : before + 1 ≡ suc before = omega arith in p) e in
    with_more choices_at has_job_at (suc before) kernels place t (omega arith) (behind (candidates_of choices_at has_job_at before) (candidates_at (suc before) (choices_at (suc before)) (has_job_at (suc before))) left place is ∙ here)

-- one more kernel is counted
pub counts_more : {V C : Type 0} (choices_at : V → ℕ → List C) (has_job_at : V → ℕ → Bool) (v w : V) (n : ℕ) (counts : List ℕ) (count : ℕ) → w ≡ v → n < length counts → Counts (choices_at v) (has_job_at v) n counts
    → count ≡ length (candidates_at (n + 1) (choices_at w (n + 1)) (has_job_at w (n + 1))) → Counts (choices_at v) (has_job_at v) (n + 1) (slice_set counts n count)
counts_more choices_at has_job_at v w n counts count same inside before is = record {
  each = λ k low. dite (ℕ_discrete n k)
      (λ here. subst (λ j. slice_get (slice_set counts n count) j ≡ Some (length (candidates_at (j + 1) (choices_at v (j + 1)) (has_job_at v (j + 1))))) here
      (get_set_same counts n count inside ∙ ap (λ x. Some x) (is ∙ ap (λ x. length (candidates_at (n + 1) (choices_at x (n + 1)) (has_job_at x (n + 1)))) same)))
      (λ apart. get_set_other counts n k count apart ∙ before.each k (omega (arith, low, apart)));
}

-- and added to those before
pub all_more : {V C : Type 0} (choices_at : V → ℕ → List C) (has_job_at : V → ℕ → Bool) (v w : V) (n all count : ℕ) → w ≡ v → all ≡ length (candidates_of (choices_at v) (has_job_at v) n)
    → count ≡ length (candidates_at (n + 1) (choices_at w (n + 1)) (has_job_at w (n + 1))) → all + count ≡ length (candidates_of (choices_at v) (has_job_at v) (n + 1))
all_more choices_at has_job_at v w n all count same before is =
    let here : count ≡ length (candidates_at (suc n) (choices_at v (suc n)) (has_job_at v (suc n))) =
    subst (λ x. count ≡ length (candidates_at (suc n) (choices_at x (suc n)) (has_job_at x (suc n)))) same (subst (λ k. count ≡ length (candidates_at k (choices_at w k) (has_job_at w k))) (let p : n + 1 ≡ suc n = omega arith in p) is) in
    let whole : length (candidates_of (choices_at v) (has_job_at v) (suc n)) ≡ length (candidates_of (choices_at v) (has_job_at v) n) + length (candidates_at (suc n) (choices_at v (suc n)) (has_job_at v (suc n))) = length-append (candidates_of (choices_at v) (has_job_at v) n) (candidates_at (suc n) (choices_at v (suc n)) (has_job_at v (suc n))) in
    let sum : all + count ≡ length (candidates_of (choices_at v) (has_job_at v) (suc n)) = omega (arith, before, here, whole) in
    subst (λ k. all + count ≡ length (candidates_of (choices_at v) (has_job_at v) k)) (let p : suc n ≡ n + 1 = omega arith in p) sum

-- a place that isn't among those of the next kernel stands behind them
pub goes_past : {C : Type 0} (choices_at : ℕ → List C) (has_job_at : ℕ → Bool) (n left place : ℕ) (counts : List ℕ) → slice_get counts n ≡ Some (length (candidates_at (n + 1) (choices_at (n + 1)) (has_job_at (n + 1))))
    → get_or counts n 0 ≤ left → place ≡ length (candidates_of choices_at has_job_at n) + left → place ≡ length (candidates_of choices_at has_job_at (n + 1)) + (left - get_or counts n 0)
goes_past choices_at has_job_at n left place counts counted behind is =
    let all : length (candidates_of choices_at has_job_at n) + get_or counts n 0 ≡ length (candidates_of choices_at has_job_at (n + 1)) =
    all_more {V = ℕ} (λ v. choices_at) (λ v. has_job_at) 0 0 n (length (candidates_of choices_at has_job_at n)) (get_or counts n 0) refl refl (get_or_from_slice_get counts n (length (candidates_at (n + 1) (choices_at (n + 1)) (has_job_at (n + 1)))) 0 counted) in
    omega (arith, all, behind, is)

some_at : {C : Type 0} (k : ℕ) (choices : List C) (has_job : Bool) → (choices ≢ []) ⊎ (has_job ≡ true) → 0 < length (candidates_at k choices has_job)
some_at k (c ∷ cs) has_job any = omega arith
some_at k [] true any = omega arith
some_at k [] false (inl some) = absurd (some refl)
some_at k [] false (inr e) = absurd (false_true e)
  where
    false_true : false ≡ true → ⊥
    false_true e = search (rules, e)

some_below : {C : Type 0} (choices_at : ℕ → List C) (has_job_at : ℕ → Bool) (n k : ℕ) → 1 ≤ k → k ≤ n → 0 < length (candidates_at k (choices_at k) (has_job_at k)) → 0 < length (candidates_of choices_at has_job_at n)
some_below choices_at has_job_at zero k low high some = absurd (omega arith)
some_below choices_at has_job_at (suc n) k low high some =
    let whole : length (candidates_of choices_at has_job_at (suc n)) ≡ length (candidates_of choices_at has_job_at n) + length (candidates_at (suc n) (choices_at (suc n)) (has_job_at (suc n))) = length-append (candidates_of choices_at has_job_at n) (candidates_at (suc n) (choices_at (suc n)) (has_job_at (suc n))) in
    dite (ℕ_discrete k (suc n))
    (λ same. let here : 0 < length (candidates_at (suc n) (choices_at (suc n)) (has_job_at (suc n))) = subst (λ z. 0 < length (candidates_at z (choices_at z) (has_job_at z))) same some in (omega arith))
    (λ apart. let before : 0 < length (candidates_of choices_at has_job_at n) = some_below choices_at has_job_at n k low (omega arith) some in (omega arith))

-- where a kernel may move, there is a candidate
pub some_candidate : {C : Type 0} (choices_at : ℕ → List C) (has_job_at : ℕ → Bool) (n : ℕ) → MayMove choices_at has_job_at n → 0 < length (candidates_of choices_at has_job_at n)
some_candidate choices_at has_job_at n may = some_below choices_at has_job_at n may.0 may.1 may.2 (some_at may.0 (choices_at may.0) (has_job_at may.0) may.3)
