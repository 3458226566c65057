-- The kernel of a relay that can go on.
use Rattle.std.proofs.Common.{rules, tests, ◌≡◌, ◌≢◌, ◌⊎◌, inl, inr, ℕ, zero, suc, ◌+◌, ◌/◌, ◌%◌, ◌<◌, ◌≤◌, ◌==◌, Bool, true, false, ◌&&◌, if◌then◌else◌, List, [], ◌∷◌, refl, sym, ap, ◌∙◌, subst, arith}
use Rattle.std.proofs.lemmas.Bool.Decides.{eqb_tells}
use Rattle.std.proofs.lemmas.Nat.{mod_below}
use Rattle.kernel_threads.specs.Steps.{MayMove}

own : (n : ℕ) → (n == n) ≡ true
own n = search (rules, tests, eqb_tells n n)

some_when : (one two : Bool) (left : ℕ) → one ≡ true → two ≡ true → (if one && two then left ∷ [] else []) ≢ []
some_when true true left a b = λ e. absurd (cc)
some_when true false left a b = absurd (cc)
some_when false two left a b = absurd (cc)

both_when : (one two : Bool) → one ≡ true → two ≡ true → (one && two) ≡ true
both_when true true a b = refl
both_when true false a b = absurd (cc)
both_when false two a b = absurd (cc)

-- a number is even or odd
sorts_by : (m n : ℕ) → n % 2 ≡ m → m < 2 → ((n % 2 == 0) ≡ true) ⊎ ((n % 2 == 1) ≡ true)
sorts_by zero n is low = inl (ap (λ (z : ℕ). z == 0) is)
sorts_by (suc zero) n is low = inr (ap (λ (z : ℕ). z == 1) is)
sorts_by (suc (suc m)) n is low = absurd (omega arith)

sorts : (n : ℕ) → ((n % 2 == 0) ≡ true) ⊎ ((n % 2 == 1) ≡ true)
sorts n = sorts_by (n % 2) n refl (mod_below n 2 (omega arith))

moves_by : (s n left : ℕ) → ((s % 2 == 0) ≡ true) ⊎ ((s % 2 == 1) ≡ true) → ((if (s % n + 1 == s % n + 1) && (s % 2 == 0) then left ∷ [] else []) ≢ []) ⊎ (((s % n + 1 == s % n + 1) && (s % 2 == 1)) ≡ true)
moves_by s n left (inl even) = inl (some_when (s % n + 1 == s % n + 1) (s % 2 == 0) left (own (s % n + 1)) even)
moves_by s n left (inr odd) = inr (both_when (s % n + 1 == s % n + 1) (s % 2 == 1) (own (s % n + 1)) odd)

pub moves : (s n left : ℕ) → 1 ≤ n → MayMove (λ k. if (s % n + 1 == k) && (s % 2 == 0) then left ∷ [] else []) (λ k. (s % n + 1 == k) && (s % 2 == 1)) n
moves s n left some = (s % n + 1, (omega arith), (let low = mod_below s n some in omega arith), moves_by s n left (sorts s))
