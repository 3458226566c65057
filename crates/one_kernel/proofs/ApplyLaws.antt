-- What becomes of an entry.
use Rattle.std.proofs.Common.{◌≡◌, ◌≤◌, ◌+◌, ℕ, zero, suc, Bool, true, false, cond, List, [], ◌∷◌, Option, Some, None, is_some, refl, sym, ap, subst, ◌∙◌, arith, slice_get, slice_set}
use Rattle.std.specs.Prelude.{◌==◌}
use Rattle.std.specs.Option.{option_map}
use Rattle.std.proofs.lemmas.Bool.{true≢false}
use Rattle.sprite_ids.proofs.ListLaws.{some_is, get_within}
use Rattle.sprite_ids.specs.declared.running.Ending.TheVariants as ending
use Rattle.process_machine.specs.declared.call.Call.{Call}
use Rattle.process_machine.specs.declared.call.Call.TheVariants.{Exit}
use Rattle.process_machine.specs.declared.program.Program.{Program}
use Rattle.process_machine.specs.Machine.{Machine}
use Rattle.process_machine.specs.Calls.{call_at}
use Rattle.process_machine.specs.Limits.{IsWithinLimits}
use Rattle.process_machine.specs.Steps.{step_of}
use Rattle.process_machine.specs.Runs.{at_next_call, call_there}
use Rattle.process_machine.proofs.LimitLaws.{call_within_limits}
use Rattle.unix_calls.specs.declared.description.Description.{Description}
use Rattle.unix_calls.specs.declared.entry.Entry.{Entry}
use Rattle.unix_calls.specs.declared.state.Process.{Process}
use Rattle.unix_calls.specs.State.{Unix, lives, no_descriptors, process_at, with_process}
use Rattle.unix_calls.specs.Answers.{program_at}
use Rattle.unix_calls.specs.After.{after, after_death, after_living, after_of, at_image, at_program, counted, is_death, next_is}
use Rattle.unix_world.specs.declared.World.{World}
use Rattle.unix_world.specs.Among.{Ascending}
use Rattle.unix_run.specs.Among.{IsBounded}
use Rattle.unix_run.specs.Entering.{Dies, made_state}
use Rattle.unix_world.specs.Worlds.{unix_of}
use Rattle.unix_world.proofs.ProcessLaws.{set_ascends, set_put}
use Rattle.one_kernel.specs.declared.applying.Applied.{Applied}
use Rattle.one_kernel.specs.declared.applying.Applied.TheVariants as applied
use Rattle.one_kernel.specs.Applied.{Applies, CallApplies, DiesAmong, applied_by, called, counted_world, enters}
use Rattle.one_kernel.specs.Verdicts.{way_at, way_by, way_if, way_of}

none_if : (b : Bool) → ◌≡◌ {A = Option Unix} (cond b None None) None
none_if true = refl
none_if false = refl

-- ---- calls

-- without a program there is no call
pub no_program : (c : Description) (e : Entry) (claimed : Call) (u : Unix) (p : Process) → program_at c.programs p.image.number ≡ None → called c e claimed u p ≡ None
no_program c e claimed u p none =
    ap (λ (o : Option Program). cond (e.number == p.calls + 1) (at_program c u p e claimed o) None) none ∙ none_if (e.number == p.calls + 1)

-- nor where the image comes to none
pub no_call : (c : Description) (e : Entry) (claimed : Call) (u : Unix) (p : Process) (program : Program) → program_at c.programs p.image.number ≡ Some program → at_next_call program p.image ≡ None → called c e claimed u p ≡ None
no_call c e claimed u p program found none =
    ap (λ (o : Option Program). cond (e.number == p.calls + 1) (at_program c u p e claimed o) None) found
    ∙ ap (λ (o : Option Machine). cond (e.number == p.calls + 1) (at_image c u p e program claimed o) None) none
    ∙ none_if (e.number == p.calls + 1)

-- at its next call
pub next_entered : (c : Description) (e : Entry) (claimed next : Call) (u : Unix) (p : Process) (program : Program) (m : Machine) → program_at c.programs p.image.number ≡ Some program → at_next_call program p.image ≡ Some m → call_there program m (step_of program m) ≡ next → called c e claimed u p ≡ enters c e claimed next (with_process (record p { image = m }) u) (record p { image = m })
next_entered c e claimed next u p program m found at is =
    let q = record p { image = m } in
    ap (λ (o : Option Program). cond (e.number == p.calls + 1) (at_program c u p e claimed o) None) found
    ∙ ap (λ (o : Option Machine). cond (e.number == p.calls + 1) (at_image c u p e program claimed o) None) at
    ∙ ap (λ (k : Call). cond (e.number == p.calls + 1) (next_is c (with_process q u) q e claimed (Some k)) None) is

-- ---- what was made

-- by a step at the call, after the way
pub by_made : (c : Description) (left way n : ℕ) (state : Option Unix) (made : Bool) (w : World) (ps : List Process) → way ≡ n → n ≤ left → state ≡ made_state made (unix_of c w ps) → Ascending ps → Applies c left way state (applied_by made n) w ps
by_made c left way n state true w ps is few step ascends = (is, few, step, ascends)
by_made c left way n state false w ps is few step ascends = (subst (λ (k : ℕ). k ≤ left) (sym is) few, step)

-- the entry is counted
pub counted_applies : (c : Description) (left way : ℕ) (state : Option Unix) (is : Applied) (w : World) (ps : List Process) → Applies c left way state is w ps → Applies c left way (option_map counted state) is (counted_world is w) ps
counted_applies c left way state (applied.Made n) w ps h = (h.0, h.1, ap (option_map counted) h.2, h.3)
counted_applies c left way state applied.NotMade w ps h = (h.0, ap (option_map counted) h.1)
counted_applies c left way state applied.Far w ps h = h

-- the same of another way and state that are equal
pub applies_as : (c : Description) (left way other : ℕ) (state known : Option Unix) (is : Applied) (w : World) (ps : List Process) → way ≡ other → state ≡ known → Applies c left other known is w ps → Applies c left way state is w ps
applies_as c left way other state known is w ps one two h =
    subst (λ (k : ℕ). Applies c left k state is w ps) (sym one) (subst (λ (o : Option Unix). Applies c left other o is w ps) (sym two) h)

-- ---- entries

-- of a process that isn't there
pub nobody : (c : Description) (u : Unix) (e : Entry) → process_at u.processes e.pid ≡ None → (way_of c u e ≡ 0) × (after c u e ≡ None)
nobody c u e none = (ap (way_if c e.call) none, ap (λ (o : Option Process). option_map counted (after_of c u e o)) none)

-- or has ended
pub ended : (c : Description) (u : Unix) (e : Entry) (p : Process) → process_at u.processes e.pid ≡ Some p → lives p ≡ false → (way_of c u e ≡ 0) × (after c u e ≡ None)
ended c u e p found over = (
  ap (way_if c e.call) found ∙ ap (λ (b : Bool). cond b (way_at c p e.call) 0) over,
  ap (λ (o : Option Process). option_map counted (after_of c u e o)) found
      ∙ ap (λ (b : Bool). option_map counted (cond b (after_living c u p e e.call) None)) over,
)

-- of one that lives
pub living : (c : Description) (u : Unix) (e : Entry) (p : Process) → process_at u.processes e.pid ≡ Some p → lives p ≡ true → (way_of c u e ≡ way_at c p e.call) × (after c u e ≡ option_map counted (after_living c u p e e.call))
living c u e p found alive = (
  ap (way_if c e.call) found ∙ ap (λ (b : Bool). cond b (way_at c p e.call) 0) alive,
  ap (λ (o : Option Process). option_map counted (after_of c u e o)) found
      ∙ ap (λ (b : Bool). option_map counted (cond b (after_living c u p e e.call) None)) alive,
)

-- ---- deaths

pub death_among : (e : Entry) (ps : List Process) (at : ℕ) (p : Process) (is : Bool) (q : Process) → Ascending ps → slice_get ps at ≡ Some p → is_death e ≡ true → Dies p is q → DiesAmong e ps at is (slice_set ps at q)
death_among e ps at p true q ascends got death h =
    let pid : q.pid ≡ p.pid = ap (λ (x : Process). x.pid) h.1 in
    record {
      tells = λ c w r there.
          let one = some_is p r (sym got ∙ there) in
          ap (λ (b : Bool). cond b (after_death (unix_of c w ps) r) None) death
          ∙ (ap (λ (x : Process). after_death (unix_of c w ps) x) (sym one)
          ∙ (ap (λ (b : Bool). cond b (Some (with_process (record p { descriptors = no_descriptors; ending = Some ending.Killed }) (unix_of c w ps))) None) h.0
          ∙ (ap (λ (x : Process). Some (with_process x (unix_of c w ps))) (sym h.1)
          ∙ ap (λ (l : List Process). Some (unix_of c w l)) (sym (set_put ps at p q ascends got pid)))));
      ascends = set_ascends ps at p q ascends got pid;
    }
death_among e ps at p false q ascends got death h =
    let pid : q.pid ≡ p.pid = ap (λ (x : Process). x.pid) h.1 in
    record {
      tells = λ c w r there.
          let one = some_is p r (sym got ∙ there) in
          ap (λ (b : Bool). cond b (after_death (unix_of c w ps) r) None) death
          ∙ (ap (λ (x : Process). after_death (unix_of c w ps) x) (sym one)
          ∙ ap (λ (b : Bool). cond b (Some (with_process (record p { descriptors = no_descriptors; ending = Some ending.Killed }) (unix_of c w ps))) None) h.0);
      ascends = set_ascends ps at p q ascends got pid;
    }

-- ---- an exit's code

bounded_within : (call : Call) → IsWithinLimits call → IsBounded call
bounded_within (Exit code) h = h
bounded_within _ h = tt

-- the call at which an image stands
pub bounded_at : (program : Program) (m : Machine) → IsBounded (call_at program m)
bounded_at program m = bounded_within (call_at program m) (call_within_limits program m)

-- ---- a process moves to its call, in its place

set_there : (ps : List Process) (at : ℕ) (p q : Process) → slice_get ps at ≡ Some p → slice_get (slice_set ps at q) at ≡ Some q
set_there [] at p q got = absurd (omega (arith, get_within [] at p got))
set_there (x ∷ xs) zero p q got = refl
set_there (x ∷ xs) (suc at) p q got = set_there xs at p q got

pub moved_there : (ps : List Process) (at : ℕ) (p : Process) (m : Machine) → slice_get ps at ≡ Some p → slice_get (slice_set ps at (record p { image = m })) at ≡ Some (record p { image = m })
moved_there ps at p m got = set_there ps at p (record p { image = m }) got

pub moved_ascends : (ps : List Process) (at : ℕ) (p : Process) (m : Machine) → Ascending ps → slice_get ps at ≡ Some p → Ascending (slice_set ps at (record p { image = m }))
moved_ascends ps at p m ascends got = set_ascends ps at p (record p { image = m }) ascends got refl

-- a call of a process that has come to it
pub call_applies : (c : Description) (left way : ℕ) (e : Entry) (claimed next : Call) (w : World) (ps : List Process) (at : ℕ) (p : Process) (program : Program) (m : Machine) (made : Bool) (after_w : World) (qs : List Process) → Ascending ps → slice_get ps at ≡ Some p → program_at c.programs p.image.number ≡ Some program → at_next_call program p.image ≡ Some m → way_by (Some program) p.image ≡ way → way ≤ left → call_there program m (step_of program m) ≡ next → enters c e claimed next (unix_of c w (slice_set ps at (record p { image = m }))) (record p { image = m }) ≡ made_state made (unix_of c after_w qs) → Ascending qs → CallApplies c left e claimed w ps at (applied_by made way) after_w qs
call_applies c left way e claimed next w ps at p program m made after_w qs ascends got found to long few is step later =
    let q = record p { image = m } in
    record {
      applies = λ r there.
          subst (λ (x : Process). Applies c left (way_by (program_at c.programs x.image.number) x.image) (called c e claimed (unix_of c w ps) x) (applied_by made way) after_w qs) (some_is p r (sym got ∙ there))
          (by_made c left (way_by (program_at c.programs p.image.number) p.image) way (called c e claimed (unix_of c w ps) p) made after_w qs
          (ap (λ (o : Option Program). way_by o p.image) found ∙ long)
          few
          (next_entered c e claimed next (unix_of c w ps) p program m found to is
          ∙ (ap (λ (l : List Process). enters c e claimed next (unix_of c w l) q) (sym (set_put ps at p q ascends got refl))
          ∙ step))
          later);
    }

pub none_is : {X : Type 0} (o : Option X) → is_some o ≡ false → o ≡ None
none_is None h = refl
none_is (Some x) h = absurd (true≢false h)
