-- Runs tell how long the way to the next call is.
use Rattle.std.proofs.Common.{◌≡◌, ◌≤◌, ◌<◌, ℕ, zero, suc, Bool, true, false, cond, Some, None, refl, sym, ap, subst, ◌∙◌, arith, nat_lt}
use Rattle.std.proofs.lemmas.Bool.{ltb-true, ltb-false}
use Rattle.sprite_ids.proofs.ListLaws.{some_is}
use Rattle.process_machine.specs.declared.program.Program.{Program}
use Rattle.process_machine.specs.Machine.{Machine}
use Rattle.process_machine.specs.Steps.{AtCall, AtBadStep, AtPage, step_of}
use Rattle.process_machine.specs.Runs.{ahead, call_bound, call_within, go_on}
use Rattle.process_machine.proofs.MachineLaws.{ahead_first, at_bad_step, at_call, next_found, Stands}
use Rattle.one_kernel.specs.declared.reach.Reach.{Reach}
use Rattle.one_kernel.specs.declared.reach.Reach.TheVariants as reach
use Rattle.one_kernel.specs.Ways.{Reaches, stopped_at, way, way_bound, way_on, way_within}

-- an image at which a way ends
pub record Ends (p : Program) (m : Machine) : Type 0 where
  pub stays : (next : Machine → ℕ) → way_on next (step_of p m) ≡ 0

pub ends_at_call : (p : Program) (m : Machine) → step_of p m ≡ AtCall → Ends p m
ends_at_call p m e = record { stays = λ next. ap (way_on next) e }

pub ends_at_bad_step : (p : Program) (m : Machine) → step_of p m ≡ AtBadStep → Ends p m
ends_at_bad_step p m e = record { stays = λ next. ap (way_on next) e }

pub ends_at_page : (p : Program) (m : Machine) (k : ℕ) → step_of p m ≡ AtPage k → Ends p m
ends_at_page p m k e = record { stays = λ next. ap (way_on next) e }

no_way : (p : Program) (fuel : ℕ) (m : Machine) → Ends p m → way_within p fuel m ≡ 0
no_way p zero m s = refl
no_way p (suc fuel) m s = s.stays (way_within p fuel)

-- a run to its end is the way
way_found : (p : Program) (fuel n : ℕ) (m last : Machine) → n ≤ fuel → ahead p m n ≡ Some last → Ends p last → way_within p fuel m ≡ n
way_found p fuel zero m last h e s = subst (λ (x : Machine). way_within p fuel x ≡ 0) (sym (some_is m last e)) (no_way p fuel last s)
way_found p zero (suc n) m last h e s = absurd (omega arith)
way_found p (suc fuel) (suc n) m last h e s =
    let first = ahead_first p m last n e in
    ap (way_on (way_within p fuel)) first.step ∙ ap suc (way_found p fuel n first.next last (omega arith) first.rest s)

-- and any run is a part of it
way_least : (p : Program) (fuel n : ℕ) (m last : Machine) → n ≤ fuel → ahead p m n ≡ Some last → n ≤ way_within p fuel m
way_least p fuel zero m last h e = omega arith
way_least p zero (suc n) m last h e = absurd (omega arith)
way_least p (suc fuel) (suc n) m last h e =
    let first = ahead_first p m last n e in
    let rest = way_least p fuel n first.next last (omega arith) first.rest in
    subst (λ (x : ℕ). suc n ≤ x) (sym (ap (way_on (way_within p fuel)) first.step)) (omega (arith, rest))

-- where a page is away no call comes
none_found : (p : Program) (fuel n k : ℕ) (m last : Machine) → n ≤ fuel → ahead p m n ≡ Some last → step_of p last ≡ AtPage k → call_within p fuel m ≡ None
none_found p zero zero k m last h e s =
    subst (λ (x : Machine). call_within p 0 x ≡ None) (sym (some_is m last e)) (ap (go_on (λ later. None) last) s)
none_found p (suc fuel) zero k m last h e s =
    subst (λ (x : Machine). call_within p (suc fuel) x ≡ None) (sym (some_is m last e)) (ap (go_on (call_within p fuel) last) s)
none_found p zero (suc n) k m last h e s = absurd (omega arith)
none_found p (suc fuel) (suc n) k m last h e s =
    let first = ahead_first p m last n e in
    ap (go_on (call_within p fuel) m) first.step ∙ none_found p fuel n k first.next last (omega arith) first.rest s

-- ---- within the bounds

pub within_call_bound : (n : ℕ) → n ≤ 40000000000 → n ≤ call_bound
unfolding call_bound
within_call_bound n h = h

pub within_way_bound : (n : ℕ) → n ≤ 40000010000 → n ≤ way_bound
unfolding way_bound
within_way_bound n h = h

far_by : (p : Program) (old new : Machine) (done most : ℕ) (at : Reach) (b : Bool) → nat_lt most done ≡ b → done ≤ 40000010000 → ahead p old done ≡ Some new → (done ≤ most → Reaches p old most at new) → Reaches p old most (cond b reach.TooFar at) new
far_by p old new done most at true e few run near =
    let least = way_least p way_bound done old new (within_way_bound done few) run in
    let far = ltb-true most done e in
    omega (arith, least, far)
far_by p old new done most at false e few run near = near (ltb-false most done e)

-- a run that stopped
pub stopped_reaches : (p : Program) (old new : Machine) (done most : ℕ) (at : Reach) → done ≤ 40000010000 → ahead p old done ≡ Some new → (done ≤ most → Reaches p old most at new) → Reaches p old most (stopped_at done most at) new
stopped_reaches p old new done most at few run near = far_by p old new done most at (nat_lt most done) refl few run near

pub reaches_call : (p : Program) (old new : Machine) (done most : ℕ) → most ≤ 40000000000 → ahead p old done ≡ Some new → step_of p new ≡ AtCall → done ≤ most → Reaches p old most (reach.Call done) new
reaches_call p old new done most bound run at near =
    let stands : Stands p new = at_call p new at in
    let next = next_found p old new done (within_call_bound done (omega (arith, bound, near))) run stands in
    let long = way_found p way_bound done old new (within_way_bound done (omega (arith, bound, near))) run (ends_at_call p new at) in
    (next, long, near, at)

pub reaches_bad_step : (p : Program) (old new : Machine) (done most : ℕ) → most ≤ 40000000000 → ahead p old done ≡ Some new → step_of p new ≡ AtBadStep → done ≤ most → Reaches p old most (reach.BadStep done) new
reaches_bad_step p old new done most bound run at near =
    let stands : Stands p new = at_bad_step p new at in
    let next = next_found p old new done (within_call_bound done (omega (arith, bound, near))) run stands in
    let long = way_found p way_bound done old new (within_way_bound done (omega (arith, bound, near))) run (ends_at_bad_step p new at) in
    (next, long, near, at)

pub reaches_none : (p : Program) (old new : Machine) (done most k : ℕ) → most ≤ 40000000000 → ahead p old done ≡ Some new → step_of p new ≡ AtPage k → done ≤ most → Reaches p old most reach.NoCall new
reaches_none p old new done most k bound run page near =
    let way_is = way_found p way_bound done old new (within_way_bound done (omega (arith, bound, near))) run (ends_at_page p new k page) in
    (none_found p call_bound done k old new (within_call_bound done (omega (arith, bound, near))) run page, subst (λ (n : ℕ). n ≤ most) (sym way_is) near)

-- a run past the bound
pub reaches_far : (p : Program) (old new : Machine) (done most : ℕ) → done ≤ 40000010000 → most < done → ahead p old done ≡ Some new → most < way p old
reaches_far p old new done most few far run =
    let least = way_least p way_bound done old new (within_way_bound done few) run in
    omega (arith, least, far)
