-- What is always true of a cluster says what its trace tells of the wire.
use Rattle.std.proofs.Common.{◌≡◌, ℕ, Bool, false, List, sym, ap, subst, ◌∙◌}
use Rattle.kernel_rpc.specs.Sound.{Wired}
use Rattle.unix_calls.specs.declared.Description.{Description}
use Rattle.unix_calls.specs.declared.Rec.{Rec}
use Rattle.unix_calls.specs.Lawful.{Lawful}
use Rattle.cluster_wire_laws.specs.Traces.{ReachedSo}
use Rattle.cluster_wire_laws.proofs.ExpiryLaws.{loss_before}
use Rattle.cluster_wire_laws.proofs.FewLaws.{few_packets}
use Rattle.cluster_wire_laws.proofs.TraceLaws.{replies_asked}
use Rattle.kernel_rpc.specs.Machine.{Machine}
use Rattle.kernel_rpc.specs.Runs.{IsRun}
use Rattle.kernel_rpc.specs.Steps.{counts_in}
use Rattle.cluster_kernels.specs.declared.State.{State}
use Rattle.sprite_cluster.specs.Logs.{Holds, TellsFaults}
use Rattle.sprite_cluster.specs.Reached.{Reached}
use Rattle.sprite_cluster.specs.Wires.{TellsWire}
use Rattle.sprite_cluster.specs.declared.cluster.Cluster.{Cluster}

-- of a run that reaches the wire
reached_tells : {L : Type 0} (faults asked : L → ℕ → ℕ → ℕ) (begun : L) (wire : Wired L) (trace : List Rec) → ReachedSo faults asked begun wire trace → TellsWire faults asked begun wire.link trace
reached_tells faults asked begun wire trace reached = record {
  first = counts_in faults asked reached.first.link;
  begins = reached.counts;
  steps = reached.steps;
  run = subst (λ (machine : Machine). IsRun machine (counts_in faults asked reached.first.link) reached.steps) reached.idles reached.ran.run;
  ends = reached.ran.counts;
  in_order = reached.linked;
  few = few_packets faults asked begun wire trace reached;
  lost = λ before rest kernel tx last is. loss_before faults asked begun wire trace before rest kernel tx last reached is;
  were_asked = λ a b one other. replies_asked faults asked begun wire trace a b one other reached;
}

-- of a cluster that is closed while its memory isn't wanting
pub closed_tells : {L : Type 0} (faults asked : L → ℕ → ℕ → ℕ) (c : Description) (closed : Bool) (begun after : L) (wire : Wired L) (state : State) (trace : List Rec) → Holds faults asked c closed begun wire state trace → after ≡ wire.link → closed ≡ false → TellsWire faults asked begun after trace
closed_tells {L} faults asked c closed begun after wire state trace held link unclosed = subst (λ (l : L). TellsWire faults asked begun l trace) (sym link) (reached_tells faults asked begun wire trace (held.reached unclosed))

pub closed_faults : {L : Type 0} (faults asked : L → ℕ → ℕ → ℕ) (c : Description) (closed : Bool) (begun after : L) (wire : Wired L) (state : State) (trace : List Rec) → Holds faults asked c closed begun wire state trace → after ≡ wire.link → closed ≡ false → TellsFaults faults begun after trace
closed_faults {L} faults asked c closed begun after wire state trace held link unclosed = subst (λ (l : L). TellsFaults faults begun l trace) (sym link) (held.tells unclosed)

-- what only finds out how a run stands keeps what is always true
pub finish_holds : {L : Type 0} (faults asked : L → ℕ → ℕ → ℕ) (old now : Cluster L) → now.description ≡ old.description → (now.closed ≡ false → now ≡ old) → Holds faults asked old.description old.closed old.begun.value old.wire old.state old.trace → Holds faults asked now.description now.closed now.begun.value now.wire now.state now.trace
finish_holds {L} faults asked old now same stays held = record {
  lawful = subst Lawful (sym same) held.lawful;
  tells = λ is. subst (λ (v : Cluster L). TellsFaults faults v.begun.value v.wire.link v.trace) (sym (stays is)) (held.tells (sym (ap (λ (v : Cluster L). v.closed) (stays is)) ∙ is));
  reached = λ is. subst (λ (v : Cluster L). ReachedSo faults asked v.begun.value v.wire v.trace) (sym (stays is)) (held.reached (sym (ap (λ (v : Cluster L). v.closed) (stays is)) ∙ is));
  came = λ is. subst (λ (v : Cluster L). Reached faults asked v.description v.begun.value (record { wire = v.wire; state = v.state; trace = v.trace })) (sym (stays is)) (held.came (sym (ap (λ (v : Cluster L). v.closed) (stays is)) ∙ is));
}
