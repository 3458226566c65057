-- When a try is over: only behind the loss of a packet, and for the last time at the eighth.
use Rattle.std.specs.Prelude.{◌≡◌, ℕ, Bool, true, List, ◌∷◌, ◌++◌, count_by}
use Rattle.sprite_ids.specs.declared.TxNo.{TxNo}
use Rattle.kernel_rpc.specs.Machine.{idle}
use Rattle.kernel_rpc.specs.Runs.{Act, Counts, IsRun}
use Rattle.unix_calls.specs.declared.Description.{Description}
use Rattle.unix_calls.specs.declared.Event.TheVariants as events
use Rattle.unix_calls.specs.declared.Rec.{Rec}
use Rattle.call_journal.specs.Past.{Past}
use Rattle.call_journal.specs.Matching.{is_at, is_expire}
use Rattle.call_journal.specs.WorthPackets.{has_loss, packets_well}
use Rattle.cluster_wire.specs.Ran.{told_of}
use Rattle.cluster_wire_laws.specs.Links.{all_told_by, of_link}
use Rattle.cluster_wire_laws.specs.Traces.{FiresAfterLoss}

-- behind each past of a trace that ends where a timer fired, a packet between the timer's kernel and a receiver of its call was lost since
-- the call's request was sent last
abbrev pub EachHasLoss : List Rec → Type 0
EachHasLoss trace = (past : Past) (rest : List Rec) (kernel : ℕ) (tx : TxNo) (last : Bool) → trace ≡ past.records ++ record { kernel = kernel; event = events.Expire tx last } ∷ rest → has_loss past kernel tx.0 ≡ true

-- behind each past of a trace that ends where a timer fired for the last time, it had fired seven times at that kernel
abbrev pub EachLastIsEighth : List Rec → Type 0
EachLastIsEighth trace = (past : Past) (rest : List Rec) (kernel : ℕ) (tx : TxNo) → trace ≡ past.records ++ record { kernel = kernel; event = events.Expire tx true } ∷ rest → count_by (is_at kernel (is_expire tx.0)) past.records ≡ 7

-- and so that record is as it should be, whatever the request was
abbrev pub EachLastIsWorth : List Rec → Type 0
EachLastIsWorth trace = (c : Description) (past : Past) (rest : List Rec) (kernel : ℕ) (tx : TxNo) → trace ≡ past.records ++ record { kernel = kernel; event = events.Expire tx true } ∷ rest → packets_well c past kernel (events.Expire tx true) ≡ true

-- each timer that a trace tells of fires in the run, behind a loss
abbrev pub FiresEach : List (Act × Counts) → List Rec → Type 0
FiresEach steps trace = (before rest : List Rec) (kernel : ℕ) (tx : TxNo) (last : Bool) → trace ≡ before ++ record { kernel = kernel; event = events.Expire tx last } ∷ rest → FiresAfterLoss steps before tx

-- a fact of each trace that tells, of packets and timers, the acts of a run
abbrev pub OfRuns : (List Rec → Type 0) → Type 0
OfRuns P = (first : Counts) (steps : List (Act × Counts)) (trace : List Rec) → IsRun idle first steps → of_link trace ≡ told_of all_told_by idle steps → FiresEach steps trace → P trace
