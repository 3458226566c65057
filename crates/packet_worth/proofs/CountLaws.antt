-- The totals count what the trace's records are.
use Rattle.std.proofs.Common.{◌≡◌, ◌∙◌, ℕ, ◌+◌, ◌*◌, ◌==◌, Bool, true, false, cond, ◌&&◌, List, [], ◌∷◌, Some, nat_le, count_by, refl, sym, ap, arith}
use Rattle.std.specs.List.{list_all}
use Rattle.std.proofs.lemmas.Bool.{and_parts, eqb-true}
use Rattle.std.proofs.lemmas.List.Sums.{sum_by-cons}
use Rattle.sprite_ids.specs.Lists.{one_if}
use Rattle.sprite_ids.specs.declared.names.TxNo.{TxNo}
use Rattle.unix_calls.specs.declared.event.Event.{Event}
use Rattle.unix_calls.specs.declared.event.Event.TheVariants as event
use Rattle.unix_calls.specs.declared.event.Rec.{Rec}
use Rattle.call_journal.specs.Matching.{has_event, is_send_to, is_expire}
use Rattle.call_journal.specs.WorthPackets.{is_delivered_at, deliveries, are_few, delivers_few, deliveries_are_few}
use Rattle.packet_worth.specs.declared.counts.Way.{Way}
use Rattle.packet_worth.specs.declared.deliveries.Totals.{Totals}
use Rattle.packet_worth.specs.Counts.{same_way, way_kept, number_kept, count_or, way_count, number_count, delivered_way, delivered_behind, sent_behind, expired_behind, TotalsOn, sends, expires, Counted, Counting, way_is_few, few_behind, is_few_in}

-- a count of one item and the others
count_first : {A : Type 0} (test : A → Bool) (x : A) (xs : List A) → count_by test (x ∷ xs) ≡ one_if (test x) + count_by test xs
count_first {A} test x xs = sum_by-cons (λ (y : A). cond {A = ℕ} (test y) 1 0) x xs ∙ ap (λ n. n + count_by test xs) (by (test x))
  where
    by : (b : Bool) → cond {A = ℕ} b 1 0 ≡ one_if b
    by true = refl
    by false = refl

-- ---- counted once more

same_count : (before : List (Way × ℕ)) (a b : Way) → same_way a b ≡ true → way_count before a ≡ way_count before b
same_count before a b is =
    let parts = and_parts (a.tx.0 == b.tx.0) (a.receiver == b.receiver) is in
    ap (λ (n : ℕ). way_count before (record { tx = record { 0 = n }; receiver = a.receiver })) (eqb-true a.tx.0 b.tx.0 parts.0)
    ∙ ap (λ (k : ℕ). way_count before (record { tx = b.tx; receiver = k })) (eqb-true a.receiver b.receiver parts.1)

way_one_more : (way other : Way) (before : List (Way × ℕ)) (b : Bool) → same_way way other ≡ b → count_or (cond b (Some (way_count before way + 1)) (way_kept before other)) ≡ way_count before other + one_if b
way_one_more way other before true is = ap (λ n. n + 1) (same_count before way other is)
way_one_more way other before false is = omega arith

number_one_more : (tx other : TxNo) (before : List (TxNo × ℕ)) (b : Bool) → (tx.0 == other.0) ≡ b → count_or (cond b (Some (number_count before tx + 1)) (number_kept before other)) ≡ number_count before other + one_if b
number_one_more tx other before true is = ap (λ (n : ℕ). number_count before (record { 0 = n }) + 1) (eqb-true tx.0 other.0 is)
number_one_more tx other before false is = omega arith

none_more : (n : ℕ) → n ≡ n + one_if false
none_more n = omega arith

-- ---- what one record adds

delivered_more : (rec : Rec) (e : Event) (before : List (Way × ℕ)) (other : Way) → count_or (delivered_behind rec.kernel e before other) ≡ way_count before other + one_if (is_delivered_at other.tx.0 other.receiver rec e)
delivered_more rec (event.Deliver tx from true about) before other = way_one_more (delivered_way rec.kernel tx from true) other before (same_way (delivered_way rec.kernel tx from true) other) refl
delivered_more rec (event.Deliver tx from false about) before other = way_one_more (delivered_way rec.kernel tx from false) other before (same_way (delivered_way rec.kernel tx from false) other) refl
delivered_more rec _ before other = none_more (way_count before other)

sent_more : (e : Event) (before : List (Way × ℕ)) (other : Way) → count_or (sent_behind e before other) ≡ way_count before other + one_if (is_send_to other.tx.0 other.receiver e)
sent_more (event.Send tx to about kind) before other = way_one_more (record { tx = tx; receiver = to }) other before (same_way (record { tx = tx; receiver = to }) other) refl
sent_more _ before other = none_more (way_count before other)

expired_more : (e : Event) (before : List (TxNo × ℕ)) (other : TxNo) → count_or (expired_behind e before other) ≡ number_count before other + one_if (is_expire other.0 e)
expired_more (event.Expire tx last) before other = number_one_more tx other before (tx.0 == other.0) refl
expired_more _ before other = none_more (number_count before other)

-- ---- the loop

-- before the first record
pub counting_begins : (totals : Totals) (trace : List Rec) → totals.delivered.entries ≡ [] → totals.sent.entries ≡ [] → totals.expired.entries ≡ [] → Counting totals trace trace
counting_begins totals trace delivered sent expired = record {
  delivered = λ way. ap (λ (m : List (Way × ℕ)). way_count m way + deliveries way.tx.0 way.receiver trace) delivered ∙ zero_more (deliveries way.tx.0 way.receiver trace);
  sent = λ way. ap (λ (m : List (Way × ℕ)). way_count m way + sends way trace) sent ∙ zero_more (sends way trace);
  expired = λ tx. ap (λ (m : List (TxNo × ℕ)). number_count m tx + expires tx trace) expired ∙ zero_more (expires tx trace);
}
  where
    zero_more : (n : ℕ) → 0 + n ≡ n
    zero_more n = omega arith

moved : (before one after rest all more : ℕ) → after ≡ before + one → more ≡ one + rest → before + more ≡ all → after + rest ≡ all
moved before one after rest all more a m e = omega (arith, a, m, e)

-- one record further
pub counting_goes : (old new : Totals) (trace rest : List Rec) (rec : Rec) → Counting old trace (rec ∷ rest) → TotalsOn rec old new → Counting new trace rest
counting_goes old new trace rest rec here more = record {
  delivered = λ way.
      moved (way_count old.delivered.entries way) (one_if (is_delivered_at way.tx.0 way.receiver rec rec.event)) (way_count new.delivered.entries way) (deliveries way.tx.0 way.receiver rest) (deliveries way.tx.0 way.receiver trace) (deliveries way.tx.0 way.receiver (rec ∷ rest))
      (ap count_or (more.0 way) ∙ delivered_more rec rec.event old.delivered.entries way)
      (count_first (λ (r : Rec). is_delivered_at way.tx.0 way.receiver r r.event) rec rest)
      (here.delivered way);
  sent = λ way.
      moved (way_count old.sent.entries way) (one_if (is_send_to way.tx.0 way.receiver rec.event)) (way_count new.sent.entries way) (sends way rest) (sends way trace) (sends way (rec ∷ rest))
      (ap count_or (more.1 way) ∙ sent_more rec.event old.sent.entries way)
      (count_first (has_event (is_send_to way.tx.0 way.receiver)) rec rest)
      (here.sent way);
  expired = λ tx.
      moved (number_count old.expired.entries tx) (one_if (is_expire tx.0 rec.event)) (number_count new.expired.entries tx) (expires tx rest) (expires tx trace) (expires tx (rec ∷ rest))
      (ap count_or (more.2 tx) ∙ expired_more rec.event old.expired.entries tx)
      (count_first (has_event (is_expire tx.0)) rec rest)
      (here.expired tx);
}

-- behind the last one
pub counting_ends : (totals : Totals) (trace : List Rec) → Counting totals trace [] → Counted totals trace
counting_ends totals trace here = record {
  delivered = λ way. sym (no_more (way_count totals.delivered.entries way)) ∙ here.delivered way;
  sent = λ way. sym (no_more (way_count totals.sent.entries way)) ∙ here.sent way;
  expired = λ tx. sym (no_more (number_count totals.expired.entries tx)) ∙ here.expired tx;
}
  where
    no_more : (n : ℕ) → n + 0 ≡ n
    no_more n = omega arith

-- ---- the verdict

way_told : (totals : Totals) (trace : List Rec) (way : Way) → Counted totals trace → way_is_few totals way ≡ are_few way.tx.0 way.receiver trace
way_told totals trace way told =
    ap (λ n. nat_le n (6 * (way_count totals.sent.entries way + number_count totals.expired.entries way.tx))) (told.delivered way)
    ∙ ap (λ n. nat_le (deliveries way.tx.0 way.receiver trace) (6 * (n + number_count totals.expired.entries way.tx))) (told.sent way)
    ∙ ap (λ n. nat_le (deliveries way.tx.0 way.receiver trace) (6 * (sends way trace + n))) (told.expired way.tx)

event_told : (totals : Totals) (trace : List Rec) (kernel : ℕ) (e : Event) → Counted totals trace → few_behind totals kernel e ≡ delivers_few e kernel trace
event_told totals trace kernel (event.Deliver tx from reply about) told = way_told totals trace (delivered_way kernel tx from reply) told
event_told totals trace kernel _ told = refl

all_told : (totals : Totals) (trace rest : List Rec) → Counted totals trace → list_all (is_few_in totals) rest ≡ list_all (λ (r : Rec). delivers_few r.event r.kernel trace) rest
all_told totals trace [] told = refl
all_told totals trace (rec ∷ rest) told =
    ap (λ b. b && list_all (is_few_in totals) rest) (event_told totals trace rec.kernel rec.event told)
    ∙ ap (λ b. delivers_few rec.event rec.kernel trace && b) (all_told totals trace rest told)

-- the totals tell whether the deliveries are few
pub few_told : (totals : Totals) (trace : List Rec) → Counted totals trace → list_all (is_few_in totals) trace ≡ deliveries_are_few trace
few_told totals trace told = all_told totals trace trace told
