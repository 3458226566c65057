-- How a process stands at the end of a run.
use Rattle.std.proofs.Common.{◌≡◌, ◌≤◌, ◌<◌, ◌∙◌, ℕ, Bool, false, cond, List, Option, Some, None, refl, sym, ap}
use Rattle.std.proofs.lemmas.Bool.{le-ltb, lt-ltb}
use Rattle.process_machine.specs.declared.program.Program.{Program}
use Rattle.process_machine.specs.Calls.{call_at}
use Rattle.process_machine.specs.Machine.{Machine}
use Rattle.process_machine.specs.Steps.{AtBadStep, AtCall, Step, step_of}
use Rattle.process_machine.specs.Runs.{at_next_call, call_of_next, call_there}
use Rattle.unix_calls.specs.declared.description.Description.{Description}
use Rattle.unix_calls.specs.declared.state.Device.{Device}
use Rattle.unix_calls.specs.declared.state.Process.{Process}
use Rattle.unix_calls.specs.State.{Unix}
use Rattle.unix_calls.specs.After.{is_wait, outcome, waits_at, waits_in, waits_on}
use Rattle.unix_world.specs.declared.World.{World}
use Rattle.unix_world.specs.Worlds.{unix_of}
use Rattle.one_kernel.specs.Ways.{way}
use Rattle.run_judge.specs.declared.halting.Halt.TheVariants as halt
use Rattle.run_judge.specs.Waiting.{asks_in_vain, waits_by}
use Rattle.run_judge.specs.Halts.{halt_by, rests_if}
use Rattle.run_judge.proofs.WaitLaws.{outcome_waits}

-- the way is short enough
pub near_halt : (left way n : ℕ) (known is : Bool) → way ≡ n → n ≤ left → is ≡ known → rests_if is n ≡ halt_by left way known
near_halt left way n known is long few e =
    ap (λ (b : Bool). rests_if b n) e
    ∙ sym (ap (λ (k : ℕ). halt_by left k known) long ∙ ap (λ (b : Bool). cond b halt.Far (rests_if known n)) (le-ltb left n few))

-- or too long
pub far_halt : (left way : ℕ) (known : Bool) → left < way → halt.Far ≡ halt_by left way known
far_halt left way known far = sym (ap (λ (b : Bool). cond b halt.Far (rests_if known way)) (lt-ltb left way far))

-- an ask
pub vain_is : (c : Description) (w : World) (ps : List Process) (p : Process) (o : Option Device) → asks_in_vain w ps p.pid o ≡ waits_on (unix_of c w ps) p o
vain_is c w ps p None = refl
vain_is c w ps p (Some device) = refl

-- at its next call
stands_at : (c : Description) (u : Unix) (p : Process) (program : Program) (m : Machine) (s : Step) → at_next_call program p.image ≡ Some m → step_of program m ≡ s → waits_in c u p (Some program) ≡ is_wait (outcome c u (record p { image = m }) (call_there program m s))
stands_at c u p program m s at step =
    ap (λ (o : Option Machine). waits_at c u p o (call_of_next program o)) at
    ∙ ap (λ (t : Step). is_wait (outcome c u (record p { image = m }) (call_there program m t))) step

pub waits_at_call : (c : Description) (w : World) (ps : List Process) (p : Process) (program : Program) (m : Machine) → at_next_call program p.image ≡ Some m → step_of program m ≡ AtCall → waits_by w ps p (call_at program m) ≡ waits_in c (unix_of c w ps) p (Some program)
waits_at_call c w ps p program m at step =
    sym (stands_at c (unix_of c w ps) p program m AtCall at step
    ∙ outcome_waits c w ps p m (call_at program m))

pub no_wait_at_bad_step : (c : Description) (u : Unix) (p : Process) (program : Program) (m : Machine) → at_next_call program p.image ≡ Some m → step_of program m ≡ AtBadStep → waits_in c u p (Some program) ≡ false
no_wait_at_bad_step c u p program m at step = stands_at c u p program m AtBadStep at step

pub no_wait_without_call : (c : Description) (u : Unix) (p : Process) (program : Program) → at_next_call program p.image ≡ None → waits_in c u p (Some program) ≡ false
no_wait_without_call c u p program none = ap (λ (o : Option Machine). waits_at c u p o (call_of_next program o)) none
