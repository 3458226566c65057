-- What the link was asked, one frame after another.
use Rattle.std.proofs.Common.{arith, ◌≡◌, ◌<◌, ◌≤◌, ◌∙◌, ◌⊎◌, inl, inr, ℕ, ◌+◌, ◌-◌, ◌^◌, Bool, true, false, ◌&&◌, cond, List, [], ◌∷◌, ◌++◌, count_by, refl, sym, subst}
use Rattle.std.proofs.lemmas.Bool.{cases_lt}
use Rattle.std.proofs.lemmas.List.Sums.{sum_by-append, sum_by-cons}
use Rattle.link_plan.specs.Counts.{HasCause, IsAsked, is_fault, raised, same_pair}
use Rattle.link_plan.specs.declared.Fate.{Fate}
use Rattle.link_plan.specs.declared.Fate.TheVariants.{Once, Lost, Twice, Late}
use Rattle.frames_text.specs.declared.sending.Sent.{Sent}
use Rattle.frames_text.specs.Sending.{AreAsked, RoseBy, is_between, is_faulty}

-- nothing was asked
pub none_asked : {L : Type 0} (faults asked : L → ℕ → ℕ → ℕ) (link : L) → AreAsked faults asked link link []
none_asked faults asked link = record { faulty = λ a b. omega arith; often = λ a b first second. inl (omega arith) }

-- of a frame its fault is counted
one_faulty : (same : Bool) (what : Fate) (old new : ℕ) → (same ≡ true → HasCause what old new) → old ≤ new → old + cond {A = ℕ} (same && is_fault what) 1 0 ≤ new
one_faulty true Once old new cause least = omega (arith, least)
one_faulty true Lost old new cause least = let less : old < new = cause refl in omega (arith, less)
one_faulty true Twice old new cause least = let less : old < new = cause refl in omega (arith, less)
one_faulty true Late old new cause least = let less : old < new = cause refl in omega (arith, less)
one_faulty false what old new cause least = omega (arith, least)

-- a count that is raised rose by one more, or stands at its end
rose_more : (old now many : ℕ) → RoseBy many old now → RoseBy (many + 1) old (raised now)
rose_more old now many (inl least) = by_end (cases_lt now (2 ^ 64 - 1))
  where
    by_end : (now < 2 ^ 64 - 1) ⊎ (2 ^ 64 - 1 ≤ now) → RoseBy (many + 1) old (raised now)
    by_end (inl low) = inl (omega (arith, low, least))
    by_end (inr high) = inr (omega (arith, high))
rose_more old now many (inr at_end) = inr (omega (arith, at_end))

rose_by : (same : Bool) (old now next many : ℕ) → RoseBy many old now → (same ≡ true → next ≡ raised now) → (same ≡ false → next ≡ now) → RoseBy (many + cond {A = ℕ} same 1 0) old next
rose_by true old now next many rose up stay = subst (RoseBy (many + 1) old) (sym (up refl)) (rose_more old now many rose)
rose_by false old now next many (inl least) up stay = let same = stay refl in inl (omega (arith, same, least))
rose_by false old now next many (inr at_end) up stay = inr (stay refl ∙ at_end)

-- one more is counted at the end
counted : (p : Sent → Bool) (sent : List Sent) (s : Sent) → count_by p (sent ++ s ∷ []) ≡ count_by p sent + cond {A = ℕ} (p s) 1 0
counted p sent s =
    let all = sum_by-append (λ (x : Sent). cond {A = ℕ} (p x) 1 0) sent (s ∷ []) in
    let last = sum_by-cons (λ (x : Sent). cond {A = ℕ} (p x) 1 0) s [] in
    omega (arith, all, last)

-- the link was asked about one frame more
pub asked_more : {L : Type 0} (faults asked : L → ℕ → ℕ → ℕ) (before now next : L) (sent : List Sent) (s : Sent) → AreAsked faults asked before now sent → IsAsked (faults now) (asked now) (faults next) (asked next) s.from s.to s.fate → AreAsked faults asked before next (sent ++ s ∷ [])
asked_more faults asked before now next sent s are is = record {
  faulty = λ a b.
      (let so_far = are.faulty a b in
      let count = counted (is_faulty a b) sent s in
      let more = one_faulty (same_pair a b s.from s.to) s.fate (faults now a b) (faults next a b) (is.cause a b) (is.never_fall a b) in
      omega (arith, so_far, count, more));
  often = λ a b first second.
      subst (λ (n : ℕ). RoseBy n (asked before a b) (asked next a b)) (sym (counted (is_between a b) sent s))
      (rose_by (same_pair a b s.from s.to) (asked before a b) (asked now a b) (asked next a b) (count_by (is_between a b) sent) (are.often a b first second) (is.once a b) (is.other_asked a b first second));
}
