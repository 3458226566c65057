-- What is told in one turn of a kernel.
use Rattle.std.specs.Prelude.{◌≡◌, ℕ, ◌+◌, ◌≤◌, Bool, List, ◌++◌, count_by}
use Rattle.kernel_rpc.specs.Runs.{Act, Counts}
use Rattle.kernel_rpc.specs.Sound.{Wired}
use Rattle.unix_calls.specs.declared.Description.{Description}
use Rattle.unix_calls.specs.declared.Event.{Event}
use Rattle.cluster_wire.specs.Ran.{Ran, told_of}
use Rattle.cluster_kernels.specs.declared.State.{State}
use Rattle.cluster_choices.specs.declared.Choice.{Choice}
use Rattle.cluster_choices.specs.Acts.{Happens}
use Rattle.cluster_bursts.specs.declared.Burst.{Burst}
use Rattle.cluster_bursts.specs.Ends.{EndsBurst}
use Rattle.cluster_wire_laws.specs.Links.{all_told_by, of_link}
use Rattle.call_journal.specs.Journal.{records_by}
use Rattle.cluster_wire_laws.specs.Orders.{of_wire, told_by}
use Rattle.cluster_wire_laws.specs.Asks.{all_sent_between, tells_sending}

-- in a turn of the kernel the wire went from here to there by some acts, and of packets and timers the kernel told these acts, in
-- their order; so of copies and timers, and of the sendings between any two no more than the packets with which calls begin in these acts
pub record RanSo {L : Type 0} (faults asked : L → ℕ → ℕ → ℕ) (kernel : ℕ) (old new : Wired L) (before after : List Event) : Type 0 where
  pub steps : List (Act × Counts)
  pub ran : Ran faults asked old new steps
  pub linked : of_link (records_by kernel after) ≡ of_link (records_by kernel before) ++ told_of all_told_by old.machine steps
  pub in_order : of_wire (records_by kernel after) ≡ of_wire (records_by kernel before) ++ told_of told_by old.machine steps
  pub sends : (a b : ℕ) → count_by (tells_sending a b kernel) after ≤ count_by (tells_sending a b kernel) before + all_sent_between a b steps

-- whatever happens at a kernel is told
abbrev pub HappeningIsTold : {L : Type 0} → (L → ℕ → ℕ → ℕ) → (L → ℕ → ℕ → ℕ) → Type 0
HappeningIsTold {L} faults asked = (c : Description) (kernel : ℕ) (choice : Choice) (old new : Wired L) (s t : State) → Happens faults asked c kernel choice old new s t → RanSo faults asked kernel old new s.told t.told

-- whatever becomes of a burst is told
abbrev pub EndIsTold : {L : Type 0} → (L → ℕ → ℕ → ℕ) → (L → ℕ → ℕ → ℕ) → Type 0
EndIsTold {L} faults asked = (c : Description) (kernel : ℕ) (b : Burst) (counted : Bool) (old new : Wired L) (s t : State) → EndsBurst faults asked c kernel b counted old new s t → RanSo faults asked kernel old new s.told t.told
