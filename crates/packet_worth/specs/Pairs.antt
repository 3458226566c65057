-- How many packets went between kernels, and how many faults were made there.
use Rattle.std.specs.Prelude.{◌≡◌, ℕ, zero, suc, ◌+◌, ◌==◌, Bool, true, false, ◌&&◌, if◌then◌else◌, List, nat_le, nat_lt, count_by, Option, Some, None}
use Rattle.std.specs.Map.{lookup}
use Rattle.std.specs.List.{list_any}
use Rattle.sprite_ids.specs.Lists.{one_if}
use Rattle.sprite_ids.specs.declared.names.TxNo.{TxNo}
use Rattle.unix_calls.specs.declared.event.Event.{Event}
use Rattle.unix_calls.specs.declared.event.Event.TheVariants as event
use Rattle.unix_calls.specs.declared.event.Rec.{Rec}
use Rattle.call_journal.specs.Matching.{has_event, is_fault, is_resend}
use Rattle.call_journal.specs.WorthPackets.{was_sent_between, packets}
use Rattle.packet_worth.specs.declared.pairs.Pair.{Pair}
use Rattle.packet_worth.specs.declared.pairs.Sent.{Sent}
use Rattle.packet_worth.specs.declared.pairs.Slot.{Slot}
use Rattle.packet_worth.specs.declared.faults.Packets.{Packets}
use Rattle.packet_worth.specs.Counts.{count_or, number_count, NumberCounted}

-- the same pair, the same call between the same kernels, and the same place
abbrev pub same_pair : Pair → Pair → Bool
same_pair a b = a.low == b.low && a.high == b.high

abbrev pub same_sent : Sent → Sent → Bool
same_sent a b = a.tx.0 == b.tx.0 && same_pair a.pair b.pair

abbrev pub same_slot : Slot → Slot → Bool
same_slot a b = a.tx.0 == b.tx.0 && a.place == b.place

-- the pair of two kernels
abbrev pub pair_of : ℕ → ℕ → Pair
pair_of a b = if nat_le a b then record { low = a; high = b } else record { low = b; high = a }

-- what is kept of a pair; what isn't kept was never counted
abbrev pub pair_kept : List (Pair × ℕ) → Pair → Option ℕ
pair_kept counts pair = lookup (same_pair pair) counts

abbrev pub pair_count : List (Pair × ℕ) → Pair → ℕ
pair_count counts pair = count_or (pair_kept counts pair)

abbrev pub slot_kept : List (Slot × Pair) → Slot → Option Pair
slot_kept slots slot = lookup (same_slot slot) slots

abbrev pub has_sent : List Sent → Sent → Bool
has_sent sent one = list_any (same_sent one) sent

abbrev pub times_if : Bool → ℕ → ℕ
times_if true n = n
times_if false n = 0

-- how often a pair is in the first slots of a call
abbrev pub in_slot : Option Pair → Pair → ℕ
in_slot None pair = 0
in_slot (Some other) pair = one_if (same_pair other pair)

abbrev pub slot_count : List (Slot × Pair) → TxNo → ℕ → Pair → ℕ
slot_count slots tx zero pair = 0
slot_count slots tx (suc place) pair = slot_count slots tx place pair + in_slot (slot_kept slots (record { tx = tx; place = place })) pair

-- so many more of one pair; one more for each slot
abbrev pub Adds : Pair → ℕ → List (Pair × ℕ) → List (Pair × ℕ) → Type 0
Adds pair more before after =
    (other : Pair) → pair_kept after other ≡ (if same_pair pair other then Some (pair_count before pair + more) else pair_kept before other)

abbrev pub AddsEach : TxNo → ℕ → List (Slot × Pair) → List (Pair × ℕ) → List (Pair × ℕ) → Type 0
AddsEach tx count slots before after = (other : Pair) → pair_count after other ≡ pair_count before other + slot_count slots tx count other

-- a further slot of a call
abbrev pub PutsSlot : TxNo → Pair → List (TxNo × ℕ) → List (Slot × Pair) → List (TxNo × ℕ) → List (Slot × Pair) → Type 0
PutsSlot tx pair counts slots counts_after slots_after =
    NumberCounted tx counts counts_after
    × ((slot : Slot) → slot_kept slots_after slot ≡ (if same_slot (record { tx = tx; place = number_count counts tx }) slot then Some pair else slot_kept slots slot))

-- a call goes out where it went before, and where it didn't
abbrev pub SendsAgain : Pair → Packets → Packets → Type 0
SendsAgain pair old new =
    Adds pair 1 old.packets.entries new.packets.entries
    × (new.faults.entries ≡ old.faults.entries)
    × (new.resends.entries ≡ old.resends.entries)
    × (new.sent.keys ≡ old.sent.keys)
    × (new.counts.entries ≡ old.counts.entries)
    × (new.slots.entries ≡ old.slots.entries)

abbrev pub SendsFirst : TxNo → Pair → Packets → Packets → Type 0
SendsFirst tx pair old new =
    PutsSlot tx pair old.counts.entries old.slots.entries new.counts.entries new.slots.entries
    × Adds pair (number_count old.resends.entries tx + 1) old.packets.entries new.packets.entries
    × (new.faults.entries ≡ old.faults.entries)
    × (new.resends.entries ≡ old.resends.entries)
    × ((one : Sent) → has_sent new.sent.keys one ≡ (if same_sent one (record { tx = tx; pair = pair }) then true else has_sent old.sent.keys one))

abbrev pub SendsOn : TxNo → Pair → Packets → Packets → Type 0
SendsOn tx pair old new =
    (has_sent old.sent.keys (record { tx = tx; pair = pair }) ≡ true → SendsAgain pair old new)
    × (has_sent old.sent.keys (record { tx = tx; pair = pair }) ≡ false → SendsFirst tx pair old new)

-- it goes out again
abbrev pub ResendsOn : TxNo → Packets → Packets → Type 0
ResendsOn tx old new =
    AddsEach tx (number_count old.counts.entries tx) old.slots.entries old.packets.entries new.packets.entries
    × (new.faults.entries ≡ old.faults.entries)
    × NumberCounted tx old.resends.entries new.resends.entries
    × (new.sent.keys ≡ old.sent.keys)
    × (new.counts.entries ≡ old.counts.entries)
    × (new.slots.entries ≡ old.slots.entries)

-- the link makes a fault
abbrev pub FaultsOn : Pair → Packets → Packets → Type 0
FaultsOn pair old new =
    (new.packets.entries ≡ old.packets.entries)
    × Adds pair 1 old.faults.entries new.faults.entries
    × (new.resends.entries ≡ old.resends.entries)
    × (new.sent.keys ≡ old.sent.keys)
    × (new.counts.entries ≡ old.counts.entries)
    × (new.slots.entries ≡ old.slots.entries)

-- what is kept behind an event of a kernel
abbrev pub MovesOn : ℕ → Event → Packets → Packets → Type 0
MovesOn kernel (event.Send tx to about kind) old new = SendsOn tx (pair_of kernel to) old new
MovesOn kernel (event.Expire tx false) old new = ResendsOn tx old new
MovesOn kernel (event.Deliver tx from false about) old new = SendsAgain (pair_of kernel from) old new
MovesOn kernel (event.Fault a b met) old new = FaultsOn (pair_of a b) old new
MovesOn kernel _ old new = new ≡ old

-- the link may make a fault
abbrev pub may_fault : Packets → Event → Bool
may_fault judge (event.Fault a b met) = nat_lt (pair_count judge.faults.entries (pair_of a b)) (pair_count judge.packets.entries (pair_of a b))
may_fault judge _ = true

-- what is kept is what the records tell
pub record TellsPackets (judge : Packets) (records : List Rec) : Type 0 where
  pub packets_told : (a b : ℕ) → pair_count judge.packets.entries (pair_of a b) ≡ packets a b records
  pub faults_told : (a b : ℕ) → pair_count judge.faults.entries (pair_of a b) ≡ count_by (has_event (is_fault a b)) records
  pub resends_told : (tx : TxNo) → number_count judge.resends.entries tx ≡ count_by (has_event (is_resend tx.0)) records
  pub sent_told : (tx : TxNo) (a b : ℕ) → has_sent judge.sent.keys (record { tx = tx; pair = pair_of a b }) ≡ was_sent_between tx.0 a b records
  pub slots_told : (tx : TxNo) (a b : ℕ) → slot_count judge.slots.entries tx (number_count judge.counts.entries tx) (pair_of a b) ≡ one_if (was_sent_between tx.0 a b records)
