-- How often the packets of remote calls were sent and delivered, and how many tries were over.
use Rattle.std.specs.Prelude.{◌≡◌, ℕ, ◌+◌, ◌*◌, ◌==◌, Bool, true, ◌&&◌, if◌then◌else◌, List, nat_le, count_by, Option, Some, None}
use Rattle.std.specs.Map.{lookup}
use Rattle.sprite_ids.specs.declared.names.TxNo.{TxNo}
use Rattle.unix_calls.specs.declared.event.Event.{Event}
use Rattle.unix_calls.specs.declared.event.Event.TheVariants as event
use Rattle.unix_calls.specs.declared.event.Rec.{Rec}
use Rattle.call_journal.specs.Matching.{has_event, is_send_to, is_expire}
use Rattle.call_journal.specs.WorthPackets.{deliveries}
use Rattle.packet_worth.specs.declared.counts.Way.{Way}
use Rattle.packet_worth.specs.declared.deliveries.Totals.{Totals}

-- the same remote call, to the same receiver
abbrev pub same_way : Way → Way → Bool
same_way a b = a.tx.0 == b.tx.0 && a.receiver == b.receiver

-- what is kept of it; what isn't kept was never counted
abbrev pub way_kept : List (Way × ℕ) → Way → Option ℕ
way_kept counts way = lookup (same_way way) counts

abbrev pub number_kept : List (TxNo × ℕ) → TxNo → Option ℕ
number_kept counts tx = lookup (λ (other : TxNo). tx.0 == other.0) counts

abbrev pub count_or : Option ℕ → ℕ
count_or None = 0
count_or (Some count) = count

abbrev pub way_count : List (Way × ℕ) → Way → ℕ
way_count counts way = count_or (way_kept counts way)

abbrev pub number_count : List (TxNo × ℕ) → TxNo → ℕ
number_count counts tx = count_or (number_kept counts tx)

-- what is kept where one was counted once more
abbrev pub way_more : Way → List (Way × ℕ) → Way → Option ℕ
way_more way before other = if same_way way other then Some (way_count before way + 1) else way_kept before other

abbrev pub number_more : TxNo → List (TxNo × ℕ) → TxNo → Option ℕ
number_more tx before other = if tx.0 == other.0 then Some (number_count before tx + 1) else number_kept before other

abbrev pub WayCounted : Way → List (Way × ℕ) → List (Way × ℕ) → Type 0
WayCounted way before after = (other : Way) → way_kept after other ≡ way_more way before other

abbrev pub NumberCounted : TxNo → List (TxNo × ℕ) → List (TxNo × ℕ) → Type 0
NumberCounted tx before after = (other : TxNo) → number_kept after other ≡ number_more tx before other

-- the way of a packet that is delivered at a kernel
abbrev pub delivered_way : ℕ → TxNo → ℕ → Bool → Way
delivered_way kernel tx from reply = record { tx = tx; receiver = if reply then from else kernel }

-- what is kept behind an event of a kernel
abbrev pub delivered_behind : ℕ → Event → List (Way × ℕ) → Way → Option ℕ
delivered_behind kernel (event.Deliver tx from reply about) before other = way_more (delivered_way kernel tx from reply) before other
delivered_behind kernel _ before other = way_kept before other

abbrev pub sent_behind : Event → List (Way × ℕ) → Way → Option ℕ
sent_behind (event.Send tx to about kind) before other = way_more (record { tx = tx; receiver = to }) before other
sent_behind _ before other = way_kept before other

abbrev pub expired_behind : Event → List (TxNo × ℕ) → TxNo → Option ℕ
expired_behind (event.Expire tx last) before other = number_more tx before other
expired_behind _ before other = number_kept before other

-- the totals with one record more
abbrev pub TotalsOn : Rec → Totals → Totals → Type 0
TotalsOn rec old new =
    ((other : Way) → way_kept new.delivered.entries other ≡ delivered_behind rec.kernel rec.event old.delivered.entries other)
    × ((other : Way) → way_kept new.sent.entries other ≡ sent_behind rec.event old.sent.entries other)
    × ((other : TxNo) → number_kept new.expired.entries other ≡ expired_behind rec.event old.expired.entries other)

-- what the totals count of a trace
abbrev pub sends : Way → List Rec → ℕ
sends way trace = count_by (has_event (is_send_to way.tx.0 way.receiver)) trace

abbrev pub expires : TxNo → List Rec → ℕ
expires tx trace = count_by (has_event (is_expire tx.0)) trace

-- the totals are those of the trace
pub record Counted (totals : Totals) (trace : List Rec) : Type 0 where
  pub delivered : (way : Way) → way_count totals.delivered.entries way ≡ deliveries way.tx.0 way.receiver trace
  pub sent : (way : Way) → way_count totals.sent.entries way ≡ sends way trace
  pub expired : (tx : TxNo) → number_count totals.expired.entries tx ≡ expires tx trace

-- the totals, and what is left, are those of the trace
pub record Counting (totals : Totals) (trace rest : List Rec) : Type 0 where
  pub delivered : (way : Way) → way_count totals.delivered.entries way + deliveries way.tx.0 way.receiver rest ≡ deliveries way.tx.0 way.receiver trace
  pub sent : (way : Way) → way_count totals.sent.entries way + sends way rest ≡ sends way trace
  pub expired : (tx : TxNo) → number_count totals.expired.entries tx + expires tx rest ≡ expires tx trace

-- the deliveries on a way are few by the totals
abbrev pub way_is_few : Totals → Way → Bool
way_is_few totals way =
    nat_le (way_count totals.delivered.entries way) (6 * (way_count totals.sent.entries way + number_count totals.expired.entries way.tx))

abbrev pub few_behind : Totals → ℕ → Event → Bool
few_behind totals kernel (event.Deliver tx from reply about) = way_is_few totals (delivered_way kernel tx from reply)
few_behind totals kernel _ = true

abbrev pub is_few_in : Totals → Rec → Bool
is_few_in totals rec = few_behind totals rec.kernel rec.event
