-- The losses that tries are over for.
use Rattle.std.specs.Prelude.{◌≡◌, ◌≤◌, ℕ, zero, suc, ◌+◌, ◌==◌, Bool, true, false, ◌&&◌, ◌||◌, if◌then◌else◌, List, [], nat_lt, Option, Some, None}
use Rattle.std.specs.List.{list_any}
use Rattle.std.specs.Map.{lookup}
use Rattle.sprite_ids.specs.Lists.{one_if}
use Rattle.sprite_ids.specs.declared.names.TxNo.{TxNo}
use Rattle.unix_calls.specs.declared.description.Description.{Description}
use Rattle.unix_calls.specs.declared.event.Event.{Event}
use Rattle.unix_calls.specs.declared.event.Event.TheVariants as event
use Rattle.unix_calls.specs.declared.event.Rec.{Rec}
use Rattle.call_journal.specs.Past.{Past, each_record}
use Rattle.call_journal.specs.Calls.{or_else}
use Rattle.call_journal.specs.Matching.{has_event, is_at, is_send, is_lost}
use Rattle.call_journal.specs.WorthPackets.{has_loss, behind_last_sending}
use Rattle.packet_worth.specs.declared.pairs.Pair.{Pair}
use Rattle.packet_worth.specs.declared.pairs.Slot.{Slot}
use Rattle.packet_worth.specs.declared.faults.Packets.{Packets}
use Rattle.packet_worth.specs.declared.losses.Losses.{Losses}
use Rattle.packet_worth.specs.declared.losses.Sender.{Sender}
use Rattle.packet_worth.specs.Counts.{number_count}
use Rattle.packet_worth.specs.Pairs.{same_pair, pair_of, pair_kept, pair_count, slot_kept, MovesOn, TellsPackets}

-- a try is over only where a packet was lost since the request last went out
abbrev pub loss_well : Past → ℕ → Event → Bool
loss_well past kernel (event.Expire tx last) = has_loss past kernel tx.0
loss_well past kernel _ = true

abbrev pub losses_are_met : Description → List Rec → Bool
losses_are_met c trace = each_record c (λ past rec rest. loss_well past rec.kernel rec.event) trace

-- ---- what is kept

abbrev pub same_sender : Sender → Sender → Bool
same_sender a b = a.kernel == b.kernel && a.tx.0 == b.tx.0

abbrev pub sending_kept : List (Sender × ℕ) → Sender → Option ℕ
sending_kept sendings at = lookup (same_sender at) sendings

-- whether a packet was lost between the kernels of a slot, since so many were
abbrev pub has_loss_at : List (Pair × ℕ) → ℕ → Option Pair → Bool
has_loss_at losses sent None = false
has_loss_at losses sent (Some pair) = nat_lt sent (pair_count losses pair)

abbrev pub slots_lost : List (Slot × Pair) → List (Pair × ℕ) → TxNo → ℕ → ℕ → Bool
slots_lost slots losses tx sent zero = false
slots_lost slots losses tx sent (suc place) =
    slots_lost slots losses tx sent place || has_loss_at losses sent (slot_kept slots (record { tx = tx; place = place }))

abbrev pub has_loss_by : Losses → TxNo → Option ℕ → Bool
has_loss_by judge tx None = false
has_loss_by judge tx (Some sent) =
    slots_lost judge.packets.slots.entries judge.losses.entries tx sent (number_count judge.packets.counts.entries tx)

abbrev pub has_loss_since : Losses → TxNo → Sender → Bool
has_loss_since judge tx at = has_loss_by judge tx (sending_kept judge.sendings.entries at)

-- a try may be over
abbrev pub may_expire : Losses → ℕ → Event → Bool
may_expire judge kernel (event.Expire tx last) = has_loss_since judge tx (record { kernel = kernel; tx = tx })
may_expire judge kernel _ = true

-- ---- one record more

-- a request goes out for the first time, and again
abbrev pub once_put : Sender → ℕ → Sender → Option ℕ → Option ℕ
once_put at lost other before = if same_sender at other then or_else before (Some lost) else before

abbrev pub PutsOnce : Sender → ℕ → List (Sender × ℕ) → List (Sender × ℕ) → Type 0
PutsOnce at lost before after = (other : Sender) → sending_kept after other ≡ once_put at lost other (sending_kept before other)

abbrev pub again : ℕ → Option ℕ → Option ℕ
again lost None = None
again lost (Some sent) = Some lost

abbrev pub again_put : Sender → ℕ → Sender → Option ℕ → Option ℕ
again_put at lost other before = if same_sender at other then again lost before else before

abbrev pub PutsAgain : Sender → ℕ → List (Sender × ℕ) → List (Sender × ℕ) → Type 0
PutsAgain at lost before after = (other : Sender) → sending_kept after other ≡ again_put at lost other (sending_kept before other)

-- what is kept behind an event of a kernel
abbrev pub sending_behind : ℕ → Event → ℕ → Sender → Option ℕ → Option ℕ
sending_behind kernel (event.Send tx to about kind) lost other before = once_put (record { kernel = kernel; tx = tx }) lost other before
sending_behind kernel (event.Expire tx false) lost other before = again_put (record { kernel = kernel; tx = tx }) lost other before
sending_behind kernel _ lost other before = before

abbrev pub is_any_loss : Event → Bool
is_any_loss (event.Fault a b met) = is_lost met
is_any_loss _ = false

-- a packet is lost between the kernels of a pair
abbrev pub is_loss_at : Pair → Event → Bool
is_loss_at pair (event.Fault a b met) = is_lost met && same_pair pair (pair_of a b)
is_loss_at pair _ = false

abbrev pub losses_behind : Event → ℕ → Pair → Option ℕ → Option ℕ
losses_behind (event.Fault a b met) lost pair before = if is_lost met && same_pair (pair_of a b) pair then Some (lost + 1) else before
losses_behind _ lost pair before = before

pub record MovesLosses (kernel : ℕ) (e : Event) (old new : Losses) : Type 0 where
  pub packets : MovesOn kernel e old.packets new.packets
  pub lost : new.lost ≡ old.lost + one_if (is_any_loss e)
  pub losses : (pair : Pair) → pair_kept new.losses.entries pair ≡ losses_behind e old.lost pair (pair_kept old.losses.entries pair)
  pub sendings :
      (at : Sender) → sending_kept new.sendings.entries at ≡ sending_behind kernel e old.lost at (sending_kept old.sendings.entries at)

-- ---- what the records tell

-- nothing so far
pub record NoPackets (packets : Packets) : Type 0 where
  pub packets_none : packets.packets.entries ≡ []
  pub faults_none : packets.faults.entries ≡ []
  pub resends_none : packets.resends.entries ≡ []
  pub sent_none : packets.sent.keys ≡ []
  pub counts_none : packets.counts.entries ≡ []

abbrev pub was_sent_by : Sender → List Rec → Bool
was_sent_by at records = list_any (is_at at.kernel (is_send at.tx.0)) records

abbrev pub lost_since : Sender → Pair → List Rec → Bool
lost_since at pair records = list_any (has_event (is_loss_at pair)) (behind_last_sending at.kernel at.tx.0 records)

-- what is kept of a sending tells whether there was one, and whether a packet was lost since
abbrev pub IsSince : Option ℕ → ℕ → ℕ → Bool → Bool → Type 0
IsSince None loss lost sent told = (sent ≡ false) × (told ≡ false)
IsSince (Some place) loss lost sent told = (sent ≡ true) × (place ≤ lost) × (nat_lt place loss ≡ told)

pub record TellsLosses (judge : Losses) (records : List Rec) : Type 0 where
  pub packets_told : TellsPackets judge.packets records
  pub losses_told : (pair : Pair) → pair_count judge.losses.entries pair ≤ judge.lost
  pub since_told :
      (at : Sender) (pair : Pair) →
      IsSince (sending_kept judge.sendings.entries at) (pair_count judge.losses.entries pair) judge.lost (was_sent_by at records) (lost_since at pair records)
