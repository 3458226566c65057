-- What the processes of a trace do, from one record to the next, and up to the calls that are issued at its end.
use Rattle.std.proofs.Common.{◌≡◌, ◌∙◌, ◌≤◌, ◌<◌, ℕ, ◌+◌, ◌-◌, Bool, true, false, cond, List, [], ◌∷◌, Option, Some, None, nat_lt, refl, sym, ap, ap₂, arith}
use Rattle.std.proofs.lemmas.Bool.{le-ltb, lt-ltb}
use Rattle.std.specs.Option.{is_some}
use Rattle.process_machine.specs.declared.program.Program.{Program}
use Rattle.process_machine.specs.Machine.{Machine}
use Rattle.process_machine.specs.Runs.{at_next_call}
use Rattle.unix_calls.specs.declared.description.Description.{Description}
use Rattle.unix_calls.specs.declared.event.Rec.{Rec}
use Rattle.unix_calls.specs.declared.state.Process.{Process}
use Rattle.unix_calls.specs.State.{Unix}
use Rattle.unix_calls.specs.After.{state_of}
use Rattle.one_kernel.specs.Ways.{way}
use Rattle.call_journal.specs.Journal.{journal_of}
use Rattle.trace_walk.specs.Walks.{cost_of}
use Rattle.trace_bursts.specs.declared.behind.Behind.{Behind}
use Rattle.trace_bursts.specs.Behind.{TellsBehind, is_in, is_issued_behind}
use Rattle.trace_bursts.specs.Costs.{call_way, passes_bound, passes_by, passes_with, sum_with, way_to_call, ways_pass}

-- ---- the way to one call

pub comes_after : (program : Program) (old new : Machine) (most sum n : ℕ) → at_next_call program old ≡ Some new → way program old ≡ n → n ≤ most - sum → sum ≤ most → Some (sum + n) ≡ sum_with most sum (call_way program old)
comes_after program old new most sum n comes is few within =
    let least : sum + n ≤ most = omega (arith, few, within) in
    sym (ap (λ o. sum_with most sum (cond (is_some o) (Some (way program old)) None)) comes
    ∙ (ap (λ w. sum_with most sum (Some w)) is
    ∙ ap (λ b. cond b None (Some (sum + n))) (le-ltb most (sum + n) least)))

pub comes_too_far : (program : Program) (old : Machine) (most sum : ℕ) → most - sum < way program old → sum ≤ most → None ≡ sum_with most sum (call_way program old)
comes_too_far program old most sum far within = by (is_some (at_next_call program old))
  where
    by : (b : Bool) → None ≡ sum_with most sum (cond b (Some (way program old)) None)
    by true =
        let past : most < sum + way program old = omega (arith, far, within) in
        sym (ap (λ b. cond b None (Some (sum + way program old))) (lt-ltb most (sum + way program old) past))
    by false = refl

pub comes_never : (program : Program) (old : Machine) (most sum : ℕ) → at_next_call program old ≡ None → None ≡ sum_with most sum (call_way program old)
comes_never program old most sum none = sym (ap (λ o. sum_with most sum (cond (is_some o) (Some (way program old)) None)) none)

-- ---- the ways of all

with_more : (f g : ℕ → Bool) (o : Option ℕ) → ((n : ℕ) → f n ≡ g n) → passes_with f o ≡ passes_with g o
with_more f g None same = refl
with_more f g (Some n) same = same n

-- by the same processes
pub ways_alike : (c : Description) (f g : ℕ → Bool) (most sum : ℕ) (ps : List Process) → ((pid : ℕ) → f pid ≡ g pid) → ways_pass c f most sum ps ≡ ways_pass c g most sum ps
ways_alike c f g most sum [] same = refl
ways_alike c f g most sum (p ∷ ps) same =
    ap (λ b. cond (nat_lt most sum) true b)
    (ap (λ b. cond b (passes_with (λ n. ways_pass c f most n ps) (sum_with most sum (way_to_call c p))) (ways_pass c f most sum ps)) (same p.pid)
    ∙ ap₂ (λ a b. cond (g p.pid) a b) (with_more (λ n. ways_pass c f most n ps) (λ n. ways_pass c g most n ps) (sum_with most sum (way_to_call c p)) (λ n. ways_alike c f g most n ps same)) (ways_alike c f g most sum ps same))

-- ---- the whole

pub passes_is : (c : Description) (most : ℕ) (trace : List Rec) (u : Unix) (cost sum : ℕ) (behind : Behind) → state_of c (journal_of trace) ≡ Some u → cost ≡ cost_of c (journal_of trace) → TellsBehind trace behind → sum ≡ cost + behind.instructions → passes_bound c most trace ≡ ways_pass c (is_in behind.issued.keys) most sum u.processes
passes_is c most trace u cost sum behind leads costs tells is =
    ap (passes_by c most trace) leads
    ∙ (ap (λ n. ways_pass c (λ pid. is_issued_behind pid trace) most n u.processes) (sym (is ∙ ap₂ (λ a b. a + b) costs tells.instructions))
    ∙ ways_alike c (λ pid. is_issued_behind pid trace) (is_in behind.issued.keys) most sum u.processes (λ pid. sym (tells.issued pid)))
