-- The way to the call of an entry is what its process has before it.
use Rattle.std.proofs.Common.{◌≡◌, ◌∙◌, ◌≤◌, ℕ, zero, suc, ◌+◌, ◌==◌, Bool, true, false, cond, Option, Some, None, refl, sym, ap, subst, arith}
use Rattle.std.specs.Option.{option_map, option_and_then}
use Rattle.process_machine.specs.declared.call.Call.{Call}
use Rattle.process_machine.specs.declared.program.Program.{Program}
use Rattle.process_machine.specs.Machine.{Machine}
use Rattle.process_machine.specs.Steps.{Step, Moved, AtCall, AtBadStep, AtPage, step_of}
use Rattle.process_machine.specs.Runs.{at_next_call, call_bound, call_within, go_on}
use Rattle.unix_calls.specs.declared.description.Description.{Description}
use Rattle.unix_calls.specs.declared.entry.Entry.{Entry}
use Rattle.unix_calls.specs.declared.state.Process.{Process}
use Rattle.unix_calls.specs.State.{Unix, lives, process_at}
use Rattle.unix_calls.specs.Answers.{program_at}
use Rattle.unix_calls.specs.After.{after, after_living, after_of, at_image, at_program, counted}
use Rattle.one_kernel.specs.Verdicts.{way_at, way_by, way_if, way_of}
use Rattle.one_kernel.specs.Ways.{way, way_bound, way_on, way_within}
use Rattle.call_journal.specs.WorthBursts.{counts_on, distance, distance_of, distance_within}

at_once : (p : Program) (j : ℕ) (m last : Machine) (s : Step) → go_on (λ later. None) m s ≡ Some last → counts_on (λ later. None) s ≡ Some (way_on (way_within p j) s)
at_once p j m last (Moved later) e = absurd (cc (e))
at_once p j m last AtCall e = refl
at_once p j m last AtBadStep e = refl
at_once p j m last (AtPage k) e = absurd (cc (e))

one_on : (p : Program) (n j : ℕ) (m last : Machine) (s : Step) → ((later : Machine) → call_within p n later ≡ Some last → distance_within p n later ≡ Some (way_within p j later)) → go_on (call_within p n) m s ≡ Some last → counts_on (distance_within p n) s ≡ Some (way_on (way_within p j) s)
one_on p n j m last (Moved later) more e =
    let same : way_within p j later + 1 ≡ suc (way_within p j later) = omega arith in
    ap (option_map (λ (k : ℕ). k + 1)) (more later e) ∙ ap Some same
one_on p n j m last AtCall more e = refl
one_on p n j m last AtBadStep more e = refl
one_on p n j m last (AtPage k) more e = absurd (cc (e))

comes : (p : Program) (last : Machine) (n j : ℕ) (m : Machine) → n ≤ j → call_within p n m ≡ Some last → distance_within p n m ≡ Some (way_within p (suc j) m)
comes p last zero j m few e = at_once p j m last (step_of p m) e
comes p last (suc n) zero m few e = absurd (omega (arith, few))
comes p last (suc n) (suc j) m few e =
    let fewer : n ≤ j = omega (arith, few) in
    one_on p n (suc j) m last (step_of p m) (λ later is. comes p last n j later fewer is) e

-- where a call comes, its way is the distance
way_is : (p : Program) (m last : Machine) → at_next_call p m ≡ Some last → distance p m ≡ Some (way p m)
unfolding call_bound way_bound
way_is p m last e = comes p last 40000000000 40000009999 m (omega arith) e

by_call : (c : Description) (u v : Unix) (e : Entry) (p : Process) (program : Program) (call : Call) (o : Option Machine) → at_next_call program p.image ≡ o → option_map counted (at_image c u p e program call o) ≡ Some v → distance program p.image ≡ Some (way program p.image)
by_call c u v e p program call None at is = absurd (cc (is))
by_call c u v e p program call (Some last) at is = way_is program p.image last at

by_program : (c : Description) (u v : Unix) (e : Entry) (p : Process) (call : Call) (o : Option Program) → option_map counted (at_program c u p e call o) ≡ Some v → option_and_then (λ q. distance q p.image) o ≡ Some (way_by o p.image)
by_program c u v e p call None is = absurd (cc (is))
by_program c u v e p call (Some program) is = by_call c u v e p program call (at_next_call program p.image) refl is

by_number : (c : Description) (u v : Unix) (e : Entry) (p : Process) (call : Call) (b : Bool) → option_map counted (cond b (at_program c u p e call (program_at c.programs p.image.number)) None) ≡ Some v → distance_of c p ≡ Some (way_at c p (Some call))
by_number c u v e p call true is = by_program c u v e p call (program_at c.programs p.image.number) is
by_number c u v e p call false is = absurd (cc (is))

by_life : (c : Description) (u v : Unix) (e : Entry) (p : Process) (call : Call) (b : Bool) → option_map counted (cond b (after_living c u p e (Some call)) None) ≡ Some v → distance_of c p ≡ Some (cond b (way_at c p (Some call)) 0)
by_life c u v e p call true is = by_number c u v e p call (e.number == p.calls + 1) is
by_life c u v e p call false is = absurd (cc (is))

by_process : (c : Description) (u v : Unix) (e : Entry) (call : Call) (o : Option Process) → e.call ≡ Some call → option_map counted (after_of c u e o) ≡ Some v → option_and_then (distance_of c) o ≡ Some (way_if c e.call o)
by_process c u v e call None calls is = absurd (cc (is))
by_process c u v e call (Some p) calls is =
    by_life c u v e p call (lives p) (subst (λ (k : Option Call). option_map counted (cond (lives p) (after_living c u p e k) None) ≡ Some v) calls is)
    ∙ ap (λ (k : Option Call). Some (cond (lives p) (way_at c p k) 0)) (sym calls)

-- of an entry that one kernel makes
pub due_is_way : (c : Description) (u v : Unix) (e : Entry) (call : Call) → e.call ≡ Some call → after c u e ≡ Some v → option_and_then (distance_of c) (process_at u.processes e.pid) ≡ Some (way_of c u e)
due_is_way c u v e call calls is = by_process c u v e call (process_at u.processes e.pid) calls is
