-- What the trace of a run tells of the link and of the packets that went over it.
use Rattle.std.specs.Prelude.{◌≡◌, ℕ, ◌+◌, ◌≤◌, Bool, List, ◌∷◌, ◌++◌, IsTrue}
use Rattle.sprite_ids.specs.declared.TxNo.{TxNo}
use Rattle.link_plan.specs.Counts.{Stay}
use Rattle.kernel_rpc.specs.Machine.{idle}
use Rattle.kernel_rpc.specs.Runs.{Act, Counts, IsRun}
use Rattle.kernel_rpc.specs.Steps.{counts_in}
use Rattle.unix_calls.specs.declared.Event.TheVariants.{Expire}
use Rattle.unix_calls.specs.declared.Rec.{Rec}
use Rattle.call_journal.specs.WorthPackets.{deliveries_are_few}
use Rattle.cluster_wire.specs.Ran.{last_counts, told_of}
use Rattle.cluster_wire_laws.specs.Asks.{RoseBy, tells_sending}
use Rattle.cluster_wire_laws.specs.Links.{all_told_by, of_link}
use Rattle.cluster_wire_laws.specs.Replies.{calls_replied}
use Rattle.cluster_wire_laws.specs.Traces.{FiresAfterLoss, records_so}

-- of packets that are sent, faults that they meet, copies that come and timers that fire, a trace tells the acts of a run of the wire, all
-- of them and in their order; the run begins with no call and with the link's counts before it, and ends with those after it. So few
-- packets come for each that is sent; a timer fires only behind a loss of that call's packets since its request was sent last; and
-- between any two of the kernels that there may be the link was asked at least once for each sending that is told, and once more for each
-- call of which it is told that a reply came
pub record TellsWire {L : Type 0} (faults asked : L → ℕ → ℕ → ℕ) (begun after : L) (trace : List Rec) : Type 0 where
  pub first : Counts
  pub begins : Stay (faults begun) (asked begun) first.faults first.asked
  pub steps : List (Act × Counts)
  pub run : IsRun idle first steps
  pub ends : counts_in faults asked after ≡ last_counts first steps
  pub in_order : of_link trace ≡ told_of all_told_by idle steps
  pub few : IsTrue (deliveries_are_few trace)
  pub lost : (before rest : List Rec) (kernel : ℕ) (tx : TxNo) (last : Bool) → trace ≡ before ++ record { kernel = kernel; event = Expire tx last } ∷ rest → FiresAfterLoss steps before tx
  pub were_asked : (a b : ℕ) → (1 ≤ a) × (a ≤ 16) → (1 ≤ b) × (b ≤ 16) → RoseBy (asked begun a b) (records_so (tells_sending a b) trace + calls_replied a b trace) (asked after a b)
