-- Each reached cluster's wire is one that a run reaches whose acts its trace tells; and how far remote calls are numbered.
use Rattle.std.proofs.Common.{arith, ◌≡◌, ℕ, ◌+◌, ◌≤◌, true, List, [], ◌∷◌, length, refl, sym, ap, subst}
use Rattle.kernel_rpc.specs.Histories.{reached}
use Rattle.kernel_rpc.specs.Machine.{Machine}
use Rattle.kernel_rpc.specs.Runs.{Act, Counts, after}
use Rattle.kernel_rpc.specs.Sound.{Wired}
use Rattle.kernel_steps.specs.declared.Out.{Out}
use Rattle.kernel_steps.specs.declared.Sending.{Sending}
use Rattle.unix_calls.specs.declared.Description.{Description}
use Rattle.unix_calls.specs.declared.Rec.{Rec}
use Rattle.cluster_wire.specs.Calling.{IsBegin}
use Rattle.cluster_wire.specs.Goings.{goes}
use Rattle.cluster_wire.specs.Ran.{EachDone}
use Rattle.cluster_wire.specs.declared.Said.{Said}
use Rattle.cluster_wire_laws.specs.Traces.{ReachedSo}
use Rattle.cluster_wire_laws.proofs.EndingLaws.{ending_so}
use Rattle.cluster_wire_laws.proofs.TraceLaws.{turn_keeps}
use Rattle.cluster_wire_laws.proofs.TurnLaws.{happening_so}
use Rattle.cluster_wire_laws.proofs.SixLaws.{begun_grows}
use Rattle.cluster_kernels.specs.declared.State.{State}
use Rattle.cluster_steps.specs.Steps.{GoesOut}
use Rattle.cluster_bursts.specs.declared.Burst.{Burst}
use Rattle.cluster_bursts.specs.declared.BurstOutcome.{BurstOutcome}
use Rattle.cluster_bursts.specs.declared.BurstOutcome.TheVariants as outcome
use Rattle.cluster_bursts.specs.Bursts.{EndsAs}
use Rattle.sprite_cluster.specs.Reached.{At, Reached}
use Rattle.sprite_cluster.specs.Steps.{begun_turn}
use Rattle.sprite_cluster.proofs.ReachedLaws.{Lasts, lasts_on}
use Rattle.reached_prefixes.proofs.KnownLaws.{not_counted}

-- ---- runs

-- a burst that is lost leaves the wire
lost_wire : (what : BurstOutcome) {L : Type 0} (faults asked : L → ℕ → ℕ → ℕ) (c : Description) (kernel : ℕ) (b : Burst) (old new : Wired L) (s t : State) → what ≡ outcome.Stale → EndsAs faults asked c kernel b what old new s t → new ≡ old
lost_wire outcome.Stale faults asked c kernel b old new s t is g = g.1
lost_wire outcome.Done faults asked c kernel b old new s t is g = absurd (cc)
lost_wire (outcome.Took said) faults asked c kernel b old new s t is g = absurd (cc)

still_so : {L : Type 0} (faults asked : L → ℕ → ℕ → ℕ) (begun : L) (old now : Wired L) (before after : List Rec) → now ≡ old → after ≡ before → ReachedSo faults asked begun old before → ReachedSo faults asked begun now after
still_so {L} faults asked begun old now before after wire trace h = subst (λ (w : Wired L). ReachedSo faults asked begun w after) (sym wire) (subst (λ (rs : List Rec). ReachedSo faults asked begun old rs) (sym trace) h)

so_last : {L : Type 0} (faults asked : L → ℕ → ℕ → ℕ) (c : Description) (begun : L) → Lasts faults asked c begun (λ (at : At L). ReachedSo faults asked begun at.wire at.trace)
so_last {L} faults asked c begun = record {
  begins = λ first b. subst (λ (trace : List Rec). ReachedSo faults asked begun first.wire trace) (sym b.none) (record {
    first = first.wire;
    idles = b.idles;
    counts = b.counts;
    steps = [];
    ran = record { run = tt; reaches = refl; counts = refl };
    linked = refl;
    in_order = refl;
    sends = λ x y. omega arith;
  });
  chose = λ kernel choice old now reached goes h. turn_keeps faults asked begun kernel old.wire now.wire goes.changes.turn.told old.trace now.trace h (happening_so faults asked c kernel choice old.wire now.wire (begun_turn old.state) goes.changes.turn goes.changes.happens) goes.changes.written;
  began = λ kernel old now reached goes h. still_so faults asked begun old.wire now.wire old.trace now.trace goes.changes.same_wire goes.changes.not_written h;
  took = λ kernel b old now reached goes h. turn_keeps faults asked begun kernel old.wire now.wire goes.changes.turn.told old.trace now.trace h (ending_so faults asked c kernel b true old.wire now.wire (begun_turn old.state) goes.changes.turn goes.changes.ends) goes.changes.written;
  lost = λ kernel b old now reached goes h. still_so faults asked begun old.wire now.wire old.trace now.trace
      (lost_wire goes.changes.ends.what faults asked c kernel b old.wire now.wire (begun_turn old.state) now.state (not_counted goes.changes.ends.what goes.changes.ends.is_counted) goes.changes.ends.ends) goes.changes.not_written h;
}

pub reached_so : {L : Type 0} (faults asked : L → ℕ → ℕ → ℕ) (c : Description) (begun : L) (now : At L) → Reached faults asked c begun now → ReachedSo faults asked begun now.wire now.trace
reached_so {L} faults asked c begun now reached = lasts_on faults asked c begun (λ (at : At L). ReachedSo faults asked begun at.wire at.trace) now (so_last faults asked c begun) reached

-- ---- how many calls were begun

run_begun : (steps : List (Act × Counts)) (machine : Machine) → machine.begun ≤ (reached machine steps).begun
run_begun [] machine = omega arith
run_begun (step ∷ steps) machine = (let one = begun_grows machine step.0 in let rest = run_begun steps (after machine step.0) in omega arith)

-- one for each that goes out
each_begun : (sendings : List Sending) (c : Description) (kernel : ℕ) (machine : Machine) (steps : List (Act × Counts)) → EachDone (λ (machine : Machine) (sending : Sending). goes c kernel sending) (IsBegin kernel) sendings machine steps → machine.begun + length sendings ≤ (reached machine steps).begun
each_begun [] c kernel machine steps e = (let more = run_begun steps machine in omega arith)
each_begun (sending ∷ sendings) c kernel machine [] e = absurd e
each_begun (sending ∷ sendings) c kernel machine (step ∷ steps) e =
    (let rest = each_begun sendings c kernel (after machine step.0) steps e.1 in
    let one : (after machine step.0).begun ≡ machine.begun + 1 = ap (λ (act : Act). (after machine act).begun) e.0.done.is in omega arith)

pub out_begun : {L : Type 0} (faults asked : L → ℕ → ℕ → ℕ) (c : Description) (kernel : ℕ) (out : Out) (old new : Wired L) (said : Said) → GoesOut faults asked c kernel out old new said → old.machine.begun + length out.sends ≤ new.machine.begun
out_begun faults asked c kernel out old new said g =
    (let first = each_begun out.sends c kernel old.machine g.requests.steps g.requests.each in
    let there = ap (λ (machine : Machine). machine.begun) g.requests.ran.reaches in
    let rest = run_begun g.answers.steps g.between.machine in
    let ends = ap (λ (machine : Machine). machine.begun) g.answers.ran.reaches in omega arith)
