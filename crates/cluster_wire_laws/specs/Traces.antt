-- What a run's trace says of its wire.
use Rattle.std.specs.Prelude.{◌≡◌, ℕ, ◌+◌, ◌*◌, ◌≤◌, Bool, true, false, List, [], ◌∷◌, ◌++◌, count_by, IsTrue}
use Rattle.sprite_ids.specs.declared.TxNo.{TxNo}
use Rattle.link_plan.specs.Counts.{Stay}
use Rattle.link_plan.specs.declared.Fate.{Fate}
use Rattle.kernel_rpc.specs.Histories.{brings, is_request_of, lost_since, times}
use Rattle.kernel_rpc.specs.Machine.{Machine, idle}
use Rattle.kernel_rpc.specs.Runs.{Act, Counts, Expire, after, gives_up}
use Rattle.kernel_rpc.specs.Sound.{Wired}
use Rattle.unix_calls.specs.declared.Event.{Event}
use Rattle.unix_calls.specs.declared.Event.TheVariants as events
use Rattle.unix_calls.specs.declared.Rec.{Rec}
use Rattle.call_journal.specs.WorthPackets.{deliveries_are_few}
use Rattle.cluster_wire.specs.Ran.{Ran, told_of}
use Rattle.cluster_wire_laws.specs.Links.{all_told_by, of_link}
use Rattle.call_journal.specs.Journal.{records_by}
use Rattle.cluster_wire_laws.specs.Orders.{of_wire, told_by}
use Rattle.cluster_wire_laws.specs.Told.{begins_to, is_reply_at, sends_again, tells_again, tells_copy, tells_last, tells_packet, tells_reply, tells_request}
use Rattle.cluster_wire_laws.specs.Turns.{RanSo}
use Rattle.cluster_wire_laws.specs.Asks.{RoseBy, all_sent_between, tells_sending}
use Rattle.cluster_wire_laws.specs.Replies.{calls_replied}

-- how many records of a trace are so, each told by its kernel
abbrev pub records_so : (ℕ → Event → Bool) → List Rec → ℕ
records_so told trace = count_by (λ (r : Rec). told r.kernel r.event) trace

-- the wire is one that a run of these acts reaches: the run began with no call, and with the counts that the link had before the boot;
-- and of packets and timers the trace tells these acts, in their order; so of copies and timers; and of the sendings between any two no more than the packets
-- with which calls begin in these acts
pub record ReachedSo {L : Type 0} (faults asked : L → ℕ → ℕ → ℕ) (begun : L) (wire : Wired L) (trace : List Rec) : Type 0 where
  pub first : Wired L
  pub idles : first.machine ≡ idle
  pub counts : Stay (faults begun) (asked begun) (faults first.link) (asked first.link)
  pub steps : List (Act × Counts)
  pub ran : Ran faults asked first wire steps
  pub linked : of_link trace ≡ told_of all_told_by idle steps
  pub in_order : of_wire trace ≡ told_of told_by idle steps
  pub sends : (a b : ℕ) → records_so (tells_sending a b) trace ≤ all_sent_between a b steps

-- a turn of a kernel keeps that, where all that the kernel told stands in the trace
abbrev pub TurnKeepsOrder : {L : Type 0} → (L → ℕ → ℕ → ℕ) → (L → ℕ → ℕ → ℕ) → Type 0
TurnKeepsOrder {L} faults asked = (begun : L) (kernel : ℕ) (old new : Wired L) (told : List Event) (before after : List Rec) → ReachedSo faults asked begun old before → RanSo faults asked kernel old new [] told → after ≡ before ++ records_by kernel told → ReachedSo faults asked begun new after

-- the records of a call's request at a kernel are the copies of it that came there
abbrev pub RequestsAreCounted : {L : Type 0} → (L → ℕ → ℕ → ℕ) → (L → ℕ → ℕ → ℕ) → Type 0
RequestsAreCounted {L} faults asked = (begun : L) (wire : Wired L) (trace : List Rec) (tx at : ℕ) (reached : ReachedSo faults asked begun wire trace) → records_so (tells_request tx at) trace ≡ times (brings (is_request_of tx at)) idle reached.steps

-- those of its reply likewise
abbrev pub RepliesAreCounted : {L : Type 0} → (L → ℕ → ℕ → ℕ) → (L → ℕ → ℕ → ℕ) → Type 0
RepliesAreCounted {L} faults asked = (begun : L) (wire : Wired L) (trace : List Rec) (tx at : ℕ) (reached : ReachedSo faults asked begun wire trace) → records_so (tells_reply tx at) trace ≡ times (brings (is_reply_at tx at)) idle reached.steps

-- the records that a call's request is sent again are the sendings by its timer
abbrev pub SendingsAreCounted : {L : Type 0} → (L → ℕ → ℕ → ℕ) → (L → ℕ → ℕ → ℕ) → Type 0
SendingsAreCounted {L} faults asked = (begun : L) (wire : Wired L) (trace : List Rec) (tx : ℕ) (reached : ReachedSo faults asked begun wire trace) → records_so (tells_again tx) trace ≡ times (sends_again tx) idle reached.steps

-- the records that a call is given up are its being given up
abbrev pub EndingsAreCounted : {L : Type 0} → (L → ℕ → ℕ → ℕ) → (L → ℕ → ℕ → ℕ) → Type 0
EndingsAreCounted {L} faults asked = (begun : L) (wire : Wired L) (trace : List Rec) (tx : ℕ) (reached : ReachedSo faults asked begun wire trace) → records_so (tells_last tx) trace ≡ times (gives_up tx) idle reached.steps

-- of the copies of a call's packets a kernel tells at most six for each time that the request was sent, which is once, and once more
-- for each record that it is sent again
abbrev pub SixCopiesEach : {L : Type 0} → (L → ℕ → ℕ → ℕ) → (L → ℕ → ℕ → ℕ) → Type 0
SixCopiesEach {L} faults asked = (begun : L) (wire : Wired L) (trace : List Rec) (tx at : ℕ) → ReachedSo faults asked begun wire trace → records_so (tells_copy tx at) trace ≤ 6 * (1 + records_so (tells_again tx) trace)

-- of which calls a packet was lost since their request was sent last: after some acts, by of which one was before them
abbrev pub lost_after : (ℕ → Bool) → Machine → List (Act × Counts) → ℕ → Bool
lost_after lost machine [] = lost
lost_after lost machine (step ∷ steps) = lost_after (λ tx. lost_since tx machine step.0 (lost tx)) (after machine step.0) steps

-- a record behind those is of the timer of that call, which fires in the run: behind exactly the acts of which the records before it tell,
-- all their sendings, faults, copies and timers, and with a packet between the call's caller and its owner lost since its request was sent last
pub record FiresAfterLoss (steps : List (Act × Counts)) (before : List Rec) (tx : TxNo) : Type 0 where
  pub done : List (Act × Counts)
  pub sent : List (ℕ × Fate)
  pub counts : Counts
  pub rest : List (Act × Counts)
  pub split : steps ≡ done ++ (Expire tx sent, counts) ∷ rest
  pub told : of_link before ≡ told_of all_told_by idle done
  pub lost : lost_after (λ tx. false) idle done tx.0 ≡ true

-- that of each record that a timer fired
abbrev pub LossBeforeEachExpiry : {L : Type 0} → (L → ℕ → ℕ → ℕ) → (L → ℕ → ℕ → ℕ) → Type 0
LossBeforeEachExpiry {L} faults asked = (begun : L) (wire : Wired L) (trace before rest : List Rec) (kernel : ℕ) (tx : TxNo) (last : Bool) (reached : ReachedSo faults asked begun wire trace) → trace ≡ before ++ record { kernel = kernel; event = events.Expire tx last } ∷ rest → FiresAfterLoss reached.steps before tx

-- between any two of the kernels that there may be, the link was asked since the boot at least as often as the trace tells of a sending
-- between the two
abbrev pub SendingsWereAsked : {L : Type 0} → (L → ℕ → ℕ → ℕ) → (L → ℕ → ℕ → ℕ) → Type 0
SendingsWereAsked {L} faults asked = (begun : L) (wire : Wired L) (trace : List Rec) (a b : ℕ) → (1 ≤ a) × (a ≤ 16) → (1 ≤ b) × (b ≤ 16) → ReachedSo faults asked begun wire trace → RoseBy (asked begun a b) (records_so (tells_sending a b) trace) (asked wire.link a b)

-- the same with once more for each call of which it tells that a reply came between the two
abbrev pub RepliesWereAsked : {L : Type 0} → (L → ℕ → ℕ → ℕ) → (L → ℕ → ℕ → ℕ) → Type 0
RepliesWereAsked {L} faults asked = (begun : L) (wire : Wired L) (trace : List Rec) (a b : ℕ) → (1 ≤ a) × (a ≤ 16) → (1 ≤ b) × (b ≤ 16) → ReachedSo faults asked begun wire trace → RoseBy (asked begun a b) (records_so (tells_sending a b) trace + calls_replied a b trace) (asked wire.link a b)

-- of the packets of a call a trace tells at most six between its sender and a receiver for each time that the call began with a packet to
-- that receiver, which is once at most, and for each record that its request is sent again
abbrev pub SixPacketsEach : {L : Type 0} → (L → ℕ → ℕ → ℕ) → (L → ℕ → ℕ → ℕ) → Type 0
SixPacketsEach {L} faults asked = (begun : L) (wire : Wired L) (trace : List Rec) (tx receiver : ℕ) (reached : ReachedSo faults asked begun wire trace) → records_so (tells_packet tx receiver) trace ≤ 6 * (times (begins_to tx receiver) idle reached.steps + records_so (tells_again tx) trace)

-- so few packets come for each that is sent: the trace tells each packet with which a call begins
abbrev pub FewPacketsCome : {L : Type 0} → (L → ℕ → ℕ → ℕ) → (L → ℕ → ℕ → ℕ) → Type 0
FewPacketsCome {L} faults asked = (begun : L) (wire : Wired L) (trace : List Rec) → ReachedSo faults asked begun wire trace → IsTrue (deliveries_are_few trace)
