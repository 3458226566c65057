-- Runs of the wire, one after the other.
use Rattle.std.proofs.Common.{◌≡◌, ℕ, List, [], ◌∷◌, ◌++◌, Option, Some, None, refl, sym, ap, ap₂, subst, ◌∙◌, append-nil, append_assoc, slice_get, remove}
use Rattle.sprite_ids.proofs.ListLaws.{some_is}
use Rattle.kernel_rpc.specs.Machine.{Machine}
use Rattle.kernel_rpc.specs.Runs.{Act, Counts, IsRun, after}
use Rattle.kernel_rpc.specs.Histories.{reached}
use Rattle.kernel_rpc.specs.Steps.{IsStep, counts_in}
use Rattle.kernel_rpc.specs.Sound.{Wired}
use Rattle.cluster_wire.specs.Ran.{Does, EachDone, Ran, RanOn, last_counts, told_of}

-- nothing was called
pub none_ran : {L : Type 0} (faults asked : L → ℕ → ℕ → ℕ) (old new : Wired L) → new ≡ old → Ran faults asked old new []
none_ran {L} faults asked old new same = record {
  run = tt;
  reaches = ap (λ (wire : Wired L). wire.machine) same;
  counts = ap (λ (wire : Wired L). counts_in faults asked wire.link) same;
}

-- one call of the wire is a run
pub one_ran : {L : Type 0} (faults asked : L → ℕ → ℕ → ℕ) (old new : Wired L) (act : Act) → IsStep faults asked old act new → Ran faults asked old new ((act, counts_in faults asked new.link) ∷ [])
one_ran faults asked old new act step = record { run = (step.0, tt); reaches = step.1; counts = refl }

reached_on : (xs ys : List (Act × Counts)) (machine : Machine) → reached machine (xs ++ ys) ≡ reached (reached machine xs) ys
reached_on [] ys machine = refl
reached_on (x ∷ xs) ys machine = reached_on xs ys (after machine x.0)

last_on : (xs ys : List (Act × Counts)) (counts : Counts) → last_counts counts (xs ++ ys) ≡ last_counts (last_counts counts xs) ys
last_on [] ys counts = refl
last_on (x ∷ xs) ys counts = last_on xs ys x.1

runs_on : (xs ys : List (Act × Counts)) (machine : Machine) (counts : Counts) → IsRun machine counts xs → IsRun (reached machine xs) (last_counts counts xs) ys → IsRun machine counts (xs ++ ys)
runs_on [] ys machine counts start next = next
runs_on (x ∷ xs) ys machine counts start next = (start.0, runs_on xs ys (after machine x.0) x.1 start.1 next)

-- two runs of which the second begins where the first ends are one
pub ran_join : {L : Type 0} (faults asked : L → ℕ → ℕ → ℕ) (old between new : Wired L) (xs ys : List (Act × Counts)) → Ran faults asked old between xs → Ran faults asked between new ys → Ran faults asked old new (xs ++ ys)
ran_join faults asked old between new xs ys first next = record {
  run = runs_on xs ys old.machine (counts_in faults asked old.link) first.run
      (subst (λ (machine : Machine). IsRun machine (last_counts (counts_in faults asked old.link) xs) ys) first.reaches
      (subst (λ (counts : Counts). IsRun between.machine counts ys) first.counts next.run));
  reaches = next.reaches ∙ ap (λ (machine : Machine). reached machine ys) first.reaches ∙ sym (reached_on xs ys old.machine);
  counts = next.counts ∙ ap (λ (counts : Counts). last_counts counts ys) first.counts ∙ sym (last_on xs ys (counts_in faults asked old.link));
}

-- no call, one call, and some calls behind others
pub on_none : {L : Type 0} (faults asked : L → ℕ → ℕ → ℕ) (old new : Wired L) → new ≡ old → RanOn faults asked old new
on_none faults asked old new same = record { steps = []; ran = none_ran faults asked old new same }

pub on_one : {L : Type 0} (faults asked : L → ℕ → ℕ → ℕ) (old new : Wired L) (act : Act) → IsStep faults asked old act new → RanOn faults asked old new
on_one faults asked old new act step = record { steps = (act, counts_in faults asked new.link) ∷ []; ran = one_ran faults asked old new act step }

pub on_join : {L : Type 0} (faults asked : L → ℕ → ℕ → ℕ) (old between new : Wired L) → RanOn faults asked old between → RanOn faults asked between new → RanOn faults asked old new
on_join faults asked old between new first next = record { steps = first.steps ++ next.steps; ran = ran_join faults asked old between new first.steps next.steps first.ran next.ran }

-- what they tell
told_on : {X : Type 0} (tells : Machine → Act → List X) (xs ys : List (Act × Counts)) (machine : Machine) → told_of tells machine (xs ++ ys) ≡ told_of tells machine xs ++ told_of tells (reached machine xs) ys
told_on tells [] ys machine = refl
told_on tells (x ∷ xs) ys machine = ap (λ rest. tells machine x.0 ++ rest) (told_on tells xs ys (after machine x.0)) ∙ sym (append_assoc (tells machine x.0) (told_of tells (after machine x.0) xs) (told_of tells (reached (after machine x.0) xs) ys))

-- what was done, and then some more
each_on : {A P : Type 0} (plan : Machine → A → Option P) (is : Machine → P → Act → Type 0) (xs ys : List A) (more : List (Act × Counts)) (machine : Machine) (steps : List (Act × Counts)) → EachDone plan is xs machine steps → EachDone plan is ys (reached machine steps) more → EachDone plan is (xs ++ ys) machine (steps ++ more)
each_on plan is [] ys more machine steps none next = subst (λ (steps : List (Act × Counts)). EachDone plan is ys (reached machine steps) more → EachDone plan is ys machine (steps ++ more)) (sym none) (λ done. done) next
each_on plan is (x ∷ xs) ys more machine [] done next = absurd done
each_on plan is (x ∷ xs) ys more machine (step ∷ steps) done next = (done.0, each_on plan is xs ys more (after machine step.0) steps done.1 next)

pub does_join : {L A P X : Type 0} (faults asked : L → ℕ → ℕ → ℕ) (plan : Machine → A → Option P) (is : Machine → P → Act → Type 0) (tells : Machine → Act → List X) (xs ys : List A) (old between new : Wired L) (told more : List X) → Does faults asked plan is tells xs old between told → Does faults asked plan is tells ys between new more → Does faults asked plan is tells (xs ++ ys) old new (told ++ more)
does_join {L} {A} {P} {X} faults asked plan is tells xs ys old between new told more first next = record {
  steps = first.steps ++ next.steps;
  ran = ran_join faults asked old between new first.steps next.steps first.ran next.ran;
  each = each_on plan is xs ys next.steps old.machine first.steps first.each (subst (λ (machine : Machine). EachDone plan is ys machine next.steps) first.ran.reaches next.each);
  told_so = ap₂ (λ (xs ys : List X). xs ++ ys) first.told_so (next.told_so ∙ ap (λ (machine : Machine). told_of tells machine next.steps) first.ran.reaches) ∙ sym (told_on tells first.steps next.steps old.machine);
}

-- no things are done
pub does_nothing : {L A P X : Type 0} (faults asked : L → ℕ → ℕ → ℕ) (plan : Machine → A → Option P) (is : Machine → P → Act → Type 0) (tells : Machine → Act → List X) (old new : Wired L) (told : List X) → new ≡ old → told ≡ [] → Does faults asked plan is tells [] old new told
does_nothing faults asked plan is tells old new told same none = record { steps = []; ran = none_ran faults asked old new same; each = refl; told_so = none }

-- one thing is done
pub does_one : {L A P X : Type 0} (faults asked : L → ℕ → ℕ → ℕ) (plan : Machine → A → Option P) (is : Machine → P → Act → Type 0) (tells : Machine → Act → List X) (x : A) (p : P) (act : Act) (old new : Wired L) (told : List X) → plan old.machine x ≡ Some p → is old.machine p act → IsStep faults asked old act new → told ≡ tells old.machine act → Does faults asked plan is tells (x ∷ []) old new told
does_one faults asked plan is tells x p act old new told some holds step told_so = record {
  steps = (act, counts_in faults asked new.link) ∷ [];
  ran = one_ran faults asked old new act step;
  each = (record { way = p; planned = some; done = holds }, refl);
  told_so = told_so ∙ sym (append-nil (tells old.machine act));
}

-- one thing was done, and what it tells came to a list
pub record DidOne {L A P X : Type 0} (faults asked : L → ℕ → ℕ → ℕ) (plan : Machine → A → Option P) (is : Machine → P → Act → Type 0) (tells : Machine → Act → List X) (x : A) (old new : Wired L) (held told : List X) : Type 0 where
  pub more : List X
  pub grown : told ≡ held ++ more
  pub did : Does faults asked plan is tells (x ∷ []) old new more

-- what is done of the rest, behind what was told, is what is done of all
abbrev pub Leads : {L A P X : Type 0} → (L → ℕ → ℕ → ℕ) → (L → ℕ → ℕ → ℕ) → (Machine → A → Option P) → (Machine → P → Act → Type 0) → (Machine → Act → List X) → List A → Wired L → List A → Wired L → List X → Type 0
Leads {L} {A} {P} {X} faults asked plan is tells all start rest old held = (new : Wired L) (more : List X) → Does faults asked plan is tells rest old new more → Does faults asked plan is tells all start new (held ++ more)

-- the first of a list, and the others
taken_first : {A : Type 0} (xs rest : List A) (x : A) → slice_get xs 0 ≡ Some x → rest ≡ remove xs 0 → xs ≡ x ∷ rest
taken_first [] rest x first others = absurd (cc)
taken_first (y ∷ ys) rest x first others = ap₂ (λ z zs. z ∷ zs) (some_is y x first) (sym others)

-- the first of the rest is done
pub leads_on : {L A P X : Type 0} (faults asked : L → ℕ → ℕ → ℕ) (plan : Machine → A → Option P) (is : Machine → P → Act → Type 0) (tells : Machine → Act → List X) (all : List A) (start : Wired L) (xs rest : List A) (x : A) (old between : Wired L) (held told : List X) → slice_get xs 0 ≡ Some x → rest ≡ remove xs 0 → DidOne faults asked plan is tells x old between held told → Leads faults asked plan is tells all start xs old held → Leads faults asked plan is tells all start rest between told
leads_on {L} {A} {P} {X} faults asked plan is tells all start xs rest x old between held told first others one leads = λ new more done.
    subst (λ (told : List X). Does faults asked plan is tells all start new told) (sym (append_assoc held one.more more) ∙ ap (λ (front : List X). front ++ more) (sym one.grown))
    (leads new (one.more ++ more) (subst (λ (xs : List A). Does faults asked plan is tells xs old new (one.more ++ more)) (sym (taken_first xs rest x first others)) (does_join faults asked plan is tells (x ∷ []) rest old between new one.more more one.did done)))

-- nothing is left
pub leads_all : {L A P X : Type 0} (faults asked : L → ℕ → ℕ → ℕ) (plan : Machine → A → Option P) (is : Machine → P → Act → Type 0) (tells : Machine → Act → List X) (all : List A) (start : Wired L) (rest : List A) (new : Wired L) (told : List X) → rest ≡ [] → Leads faults asked plan is tells all start rest new told → Does faults asked plan is tells all start new told
leads_all {L} {A} {P} {X} faults asked plan is tells all start rest new told none leads =
    subst (λ (told : List X). Does faults asked plan is tells all start new told) (append-nil told)
    (leads new [] (subst (λ (rest : List A). Does faults asked plan is tells rest new new []) (sym none) (does_nothing faults asked plan is tells new new [] refl refl)))
