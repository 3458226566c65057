-- A cluster that was run.
use Rattle.std.proofs.Common.{◌≡◌, ◌≢◌, ◌<◌, ◌∙◌, ℕ, Bool, true, false, List, Some, Result, Ok, Err, IfOk, refl, sym, ap, subst, length, nat_le}
use Rattle.std.specs.Prelude.{if◌then◌else◌}
use Rattle.std.specs.List.{list_all}
use Rattle.std.proofs.lemmas.Bool.{leb-false, leb-true}
use Rattle.sprite_ids.specs.declared.running.Finish.{Finish}
use Rattle.sprite_ids.specs.declared.running.Finish.TheVariants as finish
use Rattle.call_journal.specs.Units.{units_of}
use Rattle.call_journal.specs.Unreachable.{unreachable_for_cause}
use Rattle.unix_calls.specs.Lawful.{Lawful}
use Rattle.reached_causes.proofs.CauseLaws.{unreachable_so}
use Rattle.kernel_rpc.specs.Machine.{Machine}
use Rattle.unix_calls.specs.declared.description.Description.{Description}
use Rattle.unix_calls.specs.declared.Rec.{Rec}
use Rattle.cluster_kernels.specs.declared.State.{State}
use Rattle.cluster_kernels.specs.Kernels.{has_ended}
use Rattle.sprite_cluster.specs.Finishing.{IsSpent, finish_of, may_go_on, stands_so}
use Rattle.std.specs.declared.snapshot.Snapshot.{Snapshot}
use Rattle.sprite_cluster.specs.Logs.{Holds, TellsFaults, log_of}
use Rattle.sprite_cluster.specs.Reached.{Reached}
use Rattle.sprite_cluster.specs.Wires.{TellsWire}
use Rattle.sprite_cluster.proofs.FinishLaws.{stalled_still}
use Rattle.sprite_cluster.proofs.WireLaws.{finish_holds}
use Rattle.sprite_cluster.specs.declared.Cluster.{Cluster}
use Rattle.sprite_cluster.specs.declared.Origin.{Origin}
use Rattle.kernel_threads.specs.Steps.{Ran}
use Rattle.call_journal.specs.declared.closed.Closed.{Closed}
use Rattle.sprite_ids.specs.declared.no_memory.NoMemory.{NoMemory}
use Rattle.sprite_top.specs.Top.{IsRun, IsSameRun, RunsOver, is_out_of_memory}

-- how a run with enough memory stands: it is open, and its budget is spent where it says so
open_still : (closed : Bool) (c : Description) (trace : List Rec) (machine : Machine) (s : State) (end : Finish) → end ≡ stands_so closed c trace machine s → is_out_of_memory end ≡ false → closed ≡ false
open_still true c trace machine s end is enough = absurd (cc)
open_still false c trace machine s end is enough = refl

spent_so : (c : Description) (trace : List Rec) (machine : Machine) (s : State) (end : Finish) → end ≡ finish_of c trace machine s → IsSpent c trace end
spent_so c trace machine s end is = subst (IsSpent c trace) (sym is) (by_ended (list_all has_ended s.kernels))
  where
    by_way : (may : Bool) → units_of trace < c.budget → IsSpent c trace (if may then finish.Running else finish.Stalled)
    by_way true below = below
    by_way false below = below

    by_budget : (spent : Bool) → nat_le c.budget (units_of trace) ≡ spent → IsSpent c trace (if spent then finish.Budget else if may_go_on (length c.kernels) machine s then finish.Running else finish.Stalled)
    by_budget true spent = leb-true c.budget (units_of trace) spent
    by_budget false spent = by_way (may_go_on (length c.kernels) machine s) (leb-false c.budget (units_of trace) spent)

    by_ended : (ended : Bool) → IsSpent c trace (if ended then finish.AllEnded else if nat_le c.budget (units_of trace) then finish.Budget else if may_go_on (length c.kernels) machine s then finish.Running else finish.Stalled)
    by_ended true = tt
    by_ended false = by_budget (nat_le c.budget (units_of trace)) refl

open_so : (closed : Bool) (c : Description) (trace : List Rec) (machine : Machine) (s : State) (end : Finish) → closed ≡ false → end ≡ stands_so closed c trace machine s → end ≡ finish_of c trace machine s
open_so true c trace machine s end unclosed is = absurd (cc)
open_so false c trace machine s end unclosed is = is

-- what a cluster that is open and over comes to
run_so : {L : Type 0} (faults asked : L → ℕ → ℕ → ℕ) (begun after : L) (now : Cluster L) (end : Finish) → Reached faults asked now.description begun (record { wire = now.wire; state = now.state; trace = now.trace }) → end ≢ finish.Running → end ≡ finish_of now.description now.trace now.wire.machine now.state → after ≡ now.wire.link → IsRun faults asked begun after (record { description = now.description; trace = now.trace; finish = end })
run_so faults asked begun after now end reached over stands linked = record {
  wire = now.wire;
  state = now.state;
  linked = linked;
  reached = reached;
  stands = stands;
  over = over;
  spent = spent_so now.description now.trace now.wire.machine now.state end stands;
  still = λ stalled. stalled_still now.description now.trace now.wire.machine now.state (sym stands ∙ stalled);
}

-- and what one comes to whose finish is asked once more
close_run : {L : Type 0} (faults asked : L → ℕ → ℕ → ℕ) (old now : Cluster L) (after : L) (end : Finish) (run : Closed) → Holds faults asked old.description old.closed old.begun.value old.wire old.state old.trace → stands_so old.closed old.description old.trace old.wire.machine old.state ≢ finish.Running → now.description ≡ old.description → now.begun ≡ old.begun → (now.closed ≡ false → now ≡ old) → end ≡ stands_so now.closed now.description now.trace now.wire.machine now.state → is_out_of_memory end ≡ false → after ≡ now.wire.link → run ≡ record { description = now.description; trace = now.trace; finish = end } → IsRun faults asked old.begun.value after run
close_run {L} faults asked old now after end run held over same begun stays stands enough linked is =
    (let unclosed = open_still now.closed now.description now.trace now.wire.machine now.state end stands enough in
    let kept = finish_holds faults asked old now same stays held in
    let reached = subst (λ (l : Snapshot L). Reached faults asked now.description l.value (record { wire = now.wire; state = now.state; trace = now.trace })) begun (kept.came unclosed) in
    let ended = subst (λ (v : Cluster L). stands_so v.closed v.description v.trace v.wire.machine v.state ≢ finish.Running) (sym (stays unclosed)) over in
    subst (λ (r : Closed). IsRun faults asked old.begun.value after r) (sym is)
    (run_so faults asked old.begun.value after now end reached (λ running. ended (sym stands ∙ running)) (open_so now.closed now.description now.trace now.wire.machine now.state end unclosed stands) linked))

-- and its trace tells of no more faults than the link counted since before the boot, what the wire did, and of servers called unreachable
-- only for cause
pub close_over : {L : Type 0} (faults asked : L → ℕ → ℕ → ℕ) (old now : Cluster L) (after : L) (end : Finish) (run : Closed) → Lawful old.description → Holds faults asked old.description old.closed old.begun.value old.wire old.state old.trace → stands_so old.closed old.description old.trace old.wire.machine old.state ≢ finish.Running → now.description ≡ old.description → now.begun ≡ old.begun → (now.closed ≡ false → now ≡ old) → end ≡ stands_so now.closed now.description now.trace now.wire.machine now.state → is_out_of_memory end ≡ false → after ≡ now.wire.link → run ≡ record { description = now.description; trace = now.trace; finish = end } → (now.closed ≡ false → TellsFaults faults now.begun.value after run.trace) → (now.closed ≡ false → TellsWire faults asked now.begun.value after run.trace) → RunsOver faults asked old.begun.value after (Some run)
close_over {L} faults asked old now after end run lawful held over same begun stays stands enough linked is told wired =
    (let unclosed = open_still now.closed now.description now.trace now.wire.machine now.state end stands enough in
    let made : IsRun faults asked old.begun.value after run = close_run faults asked old now after end run held over same begun stays stands enough linked is in
    let described : run.description ≡ old.description = ap (λ (r : Closed). r.description) is ∙ same in
    record {
      run = made;
      counted = subst (λ (l : Snapshot L). TellsFaults faults l.value after run.trace) begun (told unclosed);
      wire = subst (λ (l : Snapshot L). TellsWire faults asked l.value after run.trace) begun (wired unclosed);
      caused = unreachable_so faults asked run.description old.begun.value (record { wire = made.wire; state = made.state; trace = run.trace }) (subst Lawful (sym described) lawful) made.reached;
    })

-- a run keeps what never changes, and what is always true
same_of : {L : Type 0} (faults asked : L → ℕ → ℕ → ℕ) (kernels : ℕ) (old now : Cluster L) → Ran {O = Origin L} (λ (v : Cluster L). record { description = v.description; link = v.begun }) (λ (v : Cluster L). log_of v.trace) (λ (v : Cluster L). Holds faults asked v.description v.closed v.begun.value v.wire v.state v.trace) kernels old now → stands_so now.closed now.description now.trace now.wire.machine now.state ≢ finish.Running → IsSameRun faults asked old now
same_of {L} faults asked kernels old now ran over = record { described = ap (λ (o : Origin L). o.description) ran.origin_stays; begun_so = ap (λ (o : Origin L). o.link) ran.origin_stays; holds = ran.still_holds; over = over }

pub same_run : {L : Type 0} (faults asked : L → ℕ → ℕ → ℕ) (kernels : ℕ) (old : Cluster L) (r : Result (Cluster L) (Cluster L)) → IfOk r (λ now. Ran {O = Origin L} (λ (v : Cluster L). record { description = v.description; link = v.begun }) (λ (v : Cluster L). log_of v.trace) (λ (v : Cluster L). Holds faults asked v.description v.closed v.begun.value v.wire v.state v.trace) kernels old now) → IfOk r (λ now. stands_so now.closed now.description now.trace now.wire.machine now.state ≢ finish.Running) → IfOk r (IsSameRun faults asked old)
same_run faults asked kernels old (Ok now) ran over = same_of faults asked kernels old now ran over
same_run faults asked kernels old (Err e) ran over = tt

-- a run calls servers unreachable only for cause
pub causes_of : {L : Type 0} (faults asked : L → ℕ → ℕ → ℕ) (before after : L) (r : Result Closed NoMemory) (run : Closed) → r ≡ Ok run → IfOk r (λ (x : Closed). RunsOver faults asked before after (Some x)) → unreachable_for_cause run.description run.trace ≡ true
causes_of faults asked before after r run is over =
    (let runs : RunsOver faults asked before after (Some run) = subst (λ (x : Result Closed NoMemory). IfOk x (λ (y : Closed). RunsOver faults asked before after (Some y))) is over in
    runs.caused)
