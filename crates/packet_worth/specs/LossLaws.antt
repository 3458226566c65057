-- Losses since requests went out are told record by record.
use Rattle.std.proofs.Common.{◌≡◌, ◌∙◌, ◌≤◌, ℕ, zero, suc, ◌+◌, ◌==◌, Bool, true, false, cond, ◌&&◌, ◌||◌, not, List, [], ◌∷◌, ◌++◌, Option, Some, None, nat_le, nat_lt, refl, sym, ap, ap₂, subst, arith}
use Rattle.std.specs.List.{list_any}
use Rattle.std.proofs.lemmas.Bool.{and_parts, le-leb, lt-ltb, ltb-true, true≢false}
use Rattle.sprite_ids.specs.Lists.{one_if}
use Rattle.sprite_ids.specs.declared.names.TxNo.{TxNo}
use Rattle.link_plan.specs.declared.plan.Fate.{Fate}
use Rattle.unix_calls.specs.declared.description.Description.{Description}
use Rattle.unix_calls.specs.declared.event.Event.{Event}
use Rattle.unix_calls.specs.declared.event.Event.TheVariants as event
use Rattle.unix_calls.specs.declared.event.Rec.{Rec}
use Rattle.call_journal.specs.Past.{Past, past_with, since_last}
use Rattle.call_journal.specs.Calls.{or_else}
use Rattle.call_journal.specs.Matching.{has_event, is_at, is_send, is_resend, is_lost}
use Rattle.call_journal.specs.WorthPackets.{has_loss, behind_first_send, behind_last_sending, is_loss_of, was_sent_between}
use Rattle.call_journal.proofs.GrowthLaws.{look_backs_grow}
use Rattle.trace_rules.specs.Lists.{any_more}
use Rattle.packet_worth.specs.declared.pairs.Pair.{Pair}
use Rattle.packet_worth.specs.declared.pairs.Slot.{Slot}
use Rattle.packet_worth.specs.declared.losses.Losses.{Losses}
use Rattle.packet_worth.specs.declared.losses.Sender.{Sender}
use Rattle.packet_worth.specs.Counts.{count_or, number_count}
use Rattle.packet_worth.specs.Pairs.{same_pair, pair_of, pair_kept, pair_count, slot_kept, in_slot, slot_count, TellsPackets}
use Rattle.packet_worth.specs.PairLaws.{same_turned, packets_told_on, told_first}
use Rattle.packet_worth.specs.Losses.{loss_well, sending_kept, has_loss_at, slots_lost, has_loss_by, may_expire, once_put, again, again_put, sending_behind, is_any_loss, is_loss_at, losses_behind, MovesLosses, NoPackets, was_sent_by, lost_since, IsSince, TellsLosses}

-- ---- losses between the kernels of slots

any_same : {A : Type 0} (p q : A → Bool) (xs : List A) → ((x : A) → p x ≡ q x) → list_any p xs ≡ list_any q xs
any_same p q [] same = refl
any_same p q (x ∷ xs) same = ap₂ (λ a b. a || b) (same x) (any_same p q xs same)

or_between : (a b c d : Bool) → ((a || b) || (c || d)) ≡ ((a || c) || (b || d))
or_between true b true d = refl
or_between true b false d = refl
or_between false true true d = refl
or_between false true false d = refl
or_between false false true d = refl
or_between false false false d = refl

any_either : {A : Type 0} (p q : A → Bool) (xs : List A) → list_any (λ x. p x || q x) xs ≡ (list_any p xs || list_any q xs)
any_either p q [] = refl
any_either p q (x ∷ xs) = ap (λ b. (p x || q x) || b) (any_either p q xs) ∙ or_between (p x) (q x) (list_any p xs) (list_any q xs)

any_none : {A : Type 0} (xs : List A) → list_any (λ (x : A). false) xs ≡ false
any_none [] = refl
any_none (x ∷ xs) = any_none xs

-- whether a packet is lost between the kernels of a slot, and of one of the first
abbrev lost_in : Option Pair → Event → Bool
lost_in None e = false
lost_in (Some pair) e = is_loss_at pair e

abbrev lost_among : List (Slot × Pair) → TxNo → ℕ → Event → Bool
lost_among slots tx zero e = false
lost_among slots tx (suc place) e = lost_among slots tx place e || lost_in (slot_kept slots (record { tx = tx; place = place })) e

in_by : (o : Option Pair) (xs : List Rec) (losses : List (Pair × ℕ)) (sent : ℕ) → ((pair : Pair) → nat_lt sent (pair_count losses pair) ≡ list_any (has_event (is_loss_at pair)) xs) → has_loss_at losses sent o ≡ list_any (λ (r : Rec). lost_in o r.event) xs
in_by None xs losses sent told = sym (any_none xs)
in_by (Some pair) xs losses sent told = told pair

slots_by : (slots : List (Slot × Pair)) (losses : List (Pair × ℕ)) (tx : TxNo) (sent : ℕ) (xs : List Rec) → ((pair : Pair) → nat_lt sent (pair_count losses pair) ≡ list_any (has_event (is_loss_at pair)) xs) → (place : ℕ) → slots_lost slots losses tx sent place ≡ list_any (λ (r : Rec). lost_among slots tx place r.event) xs
slots_by slots losses tx sent xs told zero = sym (any_none xs)
slots_by slots losses tx sent xs told (suc place) =
    let o = slot_kept slots (record { tx = tx; place = place }) in
    ap₂ (λ a b. a || b) (slots_by slots losses tx sent xs told place) (in_by o xs losses sent told)
    ∙ sym (any_either (λ (r : Rec). lost_among slots tx place r.event) (λ (r : Rec). lost_in o r.event) xs)

-- small laws on tests and counts
or_none : (b : Bool) → b ≡ (b || false)
or_none true = refl
or_none false = refl

no_more : (n : ℕ) → n ≡ n + 0
no_more n = omega arith

or_true : (b : Bool) → true ≡ (b || true)
or_true true = refl
or_true false = refl

one_more : (n : ℕ) (b : Bool) → nat_le 1 (n + one_if b) ≡ (nat_le 1 n || b)
one_more n true = le-leb 1 (n + 1) (omega arith) ∙ or_true (nat_le 1 n)
one_more n false = ap (nat_le 1) (sym (no_more n)) ∙ or_none (nat_le 1 n)

abbrev in_pair : Option Pair → Pair → Bool
in_pair None q = false
in_pair (Some pair) q = same_pair pair q

slot_by : (o : Option Pair) (q : Pair) (n : ℕ) → (nat_le 1 n || in_pair o q) ≡ nat_le 1 (n + in_slot o q)
slot_by None q n = sym (or_none (nat_le 1 n)) ∙ ap (nat_le 1) (no_more n)
slot_by (Some pair) q n = sym (one_more n (same_pair pair q))

-- what is lost between two kernels is lost between those of a slot where they are a slot's
lost_by : (o : Option Pair) (a b : ℕ) (met : Fate) → lost_in o (event.Fault a b met) ≡ (is_lost met && in_pair o (pair_of a b))
lost_by None a b met = sym (and_none (is_lost met))
  where
    and_none : (p : Bool) → (p && false) ≡ false
    and_none true = refl
    and_none false = refl
lost_by (Some pair) a b met = refl

and_or : (p q r : Bool) → ((p && q) || (p && r)) ≡ (p && (q || r))
and_or true q r = refl
and_or false q r = refl

fault_by : (slots : List (Slot × Pair)) (tx : TxNo) (a b : ℕ) (met : Fate) (place : ℕ) → lost_among slots tx place (event.Fault a b met) ≡ (is_lost met && nat_le 1 (slot_count slots tx place (pair_of a b)))
fault_by slots tx a b met zero = by (is_lost met)
  where
    by : (p : Bool) → false ≡ (p && false)
    by true = refl
    by false = refl
fault_by slots tx a b met (suc place) =
    let o = slot_kept slots (record { tx = tx; place = place }) in
    let n = slot_count slots tx place (pair_of a b) in
    ap₂ (λ p q. p || q) (fault_by slots tx a b met place) (lost_by o a b met)
    ∙ and_or (is_lost met) (nat_le 1 n) (in_pair o (pair_of a b))
    ∙ ap (λ p. is_lost met && p) (slot_by o (pair_of a b) n)

among_none : (slots : List (Slot × Pair)) (tx : TxNo) (e : Event) → ((pair : Pair) → is_loss_at pair e ≡ false) → (place : ℕ) → lost_among slots tx place e ≡ false
among_none slots tx e none zero = refl
among_none slots tx e none (suc place) = ap₂ (λ p q. p || q) (among_none slots tx e none place) (by (slot_kept slots (record { tx = tx; place = place })))
  where
    by : (o : Option Pair) → lost_in o e ≡ false
    by None = refl
    by (Some pair) = none pair

one_is : (b : Bool) → nat_le 1 (one_if b) ≡ b
one_is true = refl
one_is false = refl

among_told : (judge : Losses) (records : List Rec) (tx : TxNo) (e : Event) → TellsPackets judge.packets records → lost_among judge.packets.slots.entries tx (number_count judge.packets.counts.entries tx) e ≡ is_loss_of tx.0 records e
among_told judge records tx (event.Fault a b met) told =
    fault_by judge.packets.slots.entries tx a b met (number_count judge.packets.counts.entries tx)
    ∙ ap (λ n. is_lost met && nat_le 1 n) (told.slots_told tx a b)
    ∙ ap (λ p. is_lost met && p) (one_is (was_sent_between tx.0 a b records))
among_told judge records tx (event.Burst pid count) told = among_none judge.packets.slots.entries tx (event.Burst pid count) (λ pair. refl) (number_count judge.packets.counts.entries tx)
among_told judge records tx _ told = among_none judge.packets.slots.entries tx _ (λ pair. refl) (number_count judge.packets.counts.entries tx)

-- ---- looking

-- where nothing went out, nothing stands behind
first_none : (kernel tx : ℕ) (rs : List Rec) → list_any (is_at kernel (is_send tx)) rs ≡ false → behind_first_send kernel tx rs ≡ []
first_none kernel tx [] none = refl
first_none kernel tx (r ∷ rs) none = by (is_at kernel (is_send tx) r) none (first_none kernel tx rs)
  where
    by : (b : Bool) → (b || list_any (is_at kernel (is_send tx)) rs) ≡ false → (list_any (is_at kernel (is_send tx)) rs ≡ false → behind_first_send kernel tx rs ≡ []) → cond {A = List Rec} b rs (behind_first_send kernel tx rs) ≡ []
    by true is more = absurd (true≢false is)
    by false is more = more is

has_by : (judge : Losses) (past : Past) (kernel : ℕ) (tx : TxNo) (o : Option ℕ) → TellsPackets judge.packets past.records → ((pair : Pair) → IsSince o (pair_count judge.losses.entries pair) judge.lost (was_sent_by (record { kernel = kernel; tx = tx }) past.records) (lost_since (record { kernel = kernel; tx = tx }) pair past.records)) → has_loss past kernel tx.0 ≡ has_loss_by judge tx o
has_by judge past kernel tx None packets told =
    let none = (told (record { low = 0; high = 0 })).0 in
    ap (λ xs. list_any (has_event (is_loss_of tx.0 past.records)) (since_last (is_at kernel (is_resend tx.0)) xs)) (first_none kernel tx.0 past.records none)
has_by judge past kernel tx (Some sent) packets told =
    let behind = behind_last_sending kernel tx.0 past.records in
    sym (any_same (λ (r : Rec). lost_among judge.packets.slots.entries tx (number_count judge.packets.counts.entries tx) r.event) (has_event (is_loss_of tx.0 past.records)) behind (λ r. among_told judge past.records tx r.event packets))
    ∙ sym (slots_by judge.packets.slots.entries judge.losses.entries tx sent behind (λ pair. (told pair).2) (number_count judge.packets.counts.entries tx))

event_told : (judge : Losses) (past : Past) (kernel : ℕ) (e : Event) → TellsLosses judge past.records → loss_well past kernel e ≡ may_expire judge kernel e
event_told judge past kernel (event.Expire tx last) told =
    let at : Sender = record { kernel = kernel; tx = tx } in
    has_by judge past kernel tx (sending_kept judge.sendings.entries at) told.packets_told (λ pair. told.since_told at pair)
event_told judge past kernel _ told = refl

-- a try is judged by what is kept
pub losses_told : (c : Description) (judge : Losses) (past : Past) (rec : Rec) → TellsLosses judge past.records → loss_well past rec.kernel rec.event ≡ may_expire judge rec.kernel rec.event
losses_told c judge past rec told = event_told judge past rec.kernel rec.event told

-- ---- one record more

-- what stands behind the first sending, with one record more
first_more : (kernel tx : ℕ) (rs : List Rec) (r : Rec) → behind_first_send kernel tx (rs ++ r ∷ []) ≡ cond {A = List Rec} (list_any (is_at kernel (is_send tx)) rs) (behind_first_send kernel tx rs ++ r ∷ []) []
first_more kernel tx [] r = by (is_at kernel (is_send tx) r)
  where
    by : (b : Bool) → cond {A = List Rec} b [] [] ≡ []
    by true = refl
    by false = refl
first_more kernel tx (x ∷ rs) r = by (is_at kernel (is_send tx) x) (first_more kernel tx rs r)
  where
    by : (b : Bool) → behind_first_send kernel tx (rs ++ r ∷ []) ≡ cond {A = List Rec} (list_any (is_at kernel (is_send tx)) rs) (behind_first_send kernel tx rs ++ r ∷ []) [] → cond {A = List Rec} b (rs ++ r ∷ []) (behind_first_send kernel tx (rs ++ r ∷ [])) ≡ cond {A = List Rec} (b || list_any (is_at kernel (is_send tx)) rs) (cond {A = List Rec} b rs (behind_first_send kernel tx rs) ++ r ∷ []) []
    by true more = refl
    by false more = more

-- whether a packet was lost behind it
lost_more : (at : Sender) (pair : Pair) (rs : List Rec) (r : Rec) → lost_since at pair (rs ++ r ∷ []) ≡ (was_sent_by at rs && cond (is_at at.kernel (is_resend at.tx.0) r) false (cond (is_loss_at pair r.event) true (lost_since at pair rs)))
lost_more at pair rs r =
    ap (λ xs. list_any (has_event (is_loss_at pair)) (since_last (is_at at.kernel (is_resend at.tx.0)) xs)) (first_more at.kernel at.tx.0 rs r)
    ∙ by (was_sent_by at rs)
  where
    within : (b : Bool) → list_any (has_event (is_loss_at pair)) (cond {A = List Rec} b [] (since_last (is_at at.kernel (is_resend at.tx.0)) (behind_first_send at.kernel at.tx.0 rs) ++ r ∷ [])) ≡ cond b false (cond (is_loss_at pair r.event) true (lost_since at pair rs))
    within true = refl
    within false = any_more (has_event (is_loss_at pair)) (since_last (is_at at.kernel (is_resend at.tx.0)) (behind_first_send at.kernel at.tx.0 rs)) r

    by : (b : Bool) → list_any (has_event (is_loss_at pair)) (since_last (is_at at.kernel (is_resend at.tx.0)) (cond {A = List Rec} b (behind_first_send at.kernel at.tx.0 rs ++ r ∷ []) [])) ≡ (b && cond (is_at at.kernel (is_resend at.tx.0) r) false (cond (is_loss_at pair r.event) true (lost_since at pair rs)))
    by true =
        ap (list_any (has_event (is_loss_at pair))) (look_backs_grow.sinces (is_at at.kernel (is_resend at.tx.0)) (behind_first_send at.kernel at.tx.0 rs) r)
        ∙ within (is_at at.kernel (is_resend at.tx.0) r)
    by false = refl

-- ---- what a record does to a sending

-- no number is under one that isn't greater
not_lt : (m n : ℕ) → n ≤ m → nat_lt m n ≡ false
not_lt m n le = by (nat_lt m n) refl
  where
    by : (b : Bool) → nat_lt m n ≡ b → b ≡ false
    by true is = (let lt = ltb-true m n is in absurd (omega (arith, le, lt)))
    by false is = refl

-- nothing
abbrev Since : Option ℕ → ℕ → ℕ → Bool → Bool → Type 0
Since o loss lost sent told = IsSince o loss lost sent told

stays : (o : Option ℕ) (loss lost : ℕ) (sent told : Bool) → Since o loss lost sent told → Since o loss (lost + 0) sent (sent && told)
stays None loss lost sent told is = (is.0, ap (λ b. b && told) is.0)
stays (Some place) loss lost sent told is = (let le = is.1 in (is.0, omega (arith, le), is.2 ∙ sym (ap (λ b. b && told) is.0)))

-- a request goes out, at its kernel or elsewhere
goes_once : (o : Option ℕ) (loss lost : ℕ) (sent told b : Bool) → loss ≤ lost → Since o loss lost sent told → Since (cond b (or_else o (Some lost)) o) loss (lost + 0) (cond b true sent) (sent && told)
goes_once None loss lost sent told true le is = (refl, omega arith, not_lt lost loss le ∙ sym (ap (λ b. b && told) is.0))
goes_once None loss lost sent told false le is = stays None loss lost sent told is
goes_once (Some place) loss lost sent told true le is = (let l = is.1 in (refl, omega (arith, l), is.2 ∙ sym (ap (λ b. b && told) is.0)))
goes_once (Some place) loss lost sent told false le is = stays (Some place) loss lost sent told is

-- again
goes_again : (o : Option ℕ) (loss lost : ℕ) (sent told b : Bool) → loss ≤ lost → Since o loss lost sent told → Since (cond b (again lost o) o) loss (lost + 0) sent (sent && cond b false told)
goes_again None loss lost sent told true le is = (is.0, ap (λ b. b && false) is.0)
goes_again None loss lost sent told false le is = stays None loss lost sent told is
goes_again (Some place) loss lost sent told true le is = (is.0, omega arith, not_lt lost loss le ∙ sym (ap (λ b. b && false) is.0))
goes_again (Some place) loss lost sent told false le is = stays (Some place) loss lost sent told is

-- a packet is lost, between the kernels of the pair or elsewhere
loses : (o : Option ℕ) (loss lost : ℕ) (sent told b : Bool) → Since o loss lost sent told → Since o (cond {A = ℕ} b (lost + 1) loss) (lost + 1) sent (sent && cond b true told)
loses None loss lost sent told b is = (is.0, ap (λ p. p && cond b true told) is.0)
loses (Some place) loss lost sent told true is = (let le = is.1 in (is.0, omega (arith, le), lt-ltb place (lost + 1) (omega (arith, le)) ∙ sym (ap (λ p. p && true) is.0)))
loses (Some place) loss lost sent told false is = (let le = is.1 in (is.0, omega (arith, le), is.2 ∙ sym (ap (λ p. p && told) is.0)))

-- ---- one record more

pair_turned : (p q : Pair) → same_pair p q ≡ same_pair q p
pair_turned p q = ap (λ c. c && p.high == q.high) (same_turned p.low q.low) ∙ ap (λ c. q.low == p.low && c) (same_turned p.high q.high)

put_by : (b : Bool) (lost : ℕ) (o : Option ℕ) → count_or (cond b (Some (lost + 1)) o) ≡ cond {A = ℕ} b (lost + 1) (count_or o)
put_by true lost o = refl
put_by false lost o = refl

loss_step : (e : Event) (lost : ℕ) (pair : Pair) (o : Option ℕ) → count_or (losses_behind e lost pair o) ≡ cond {A = ℕ} (is_loss_at pair e) (lost + 1) (count_or o)
loss_step (event.Fault a b met) lost pair o =
    put_by (is_lost met && same_pair (pair_of a b) pair) lost o
    ∙ ap (λ p. cond {A = ℕ} (is_lost met && p) (lost + 1) (count_or o)) (pair_turned (pair_of a b) pair)
loss_step _ lost pair o = refl

-- what is told behind an event, of a request at its kernel
abbrev Behind : ℕ → Event → Sender → Pair → Option ℕ → ℕ → ℕ → Bool → Bool → Type 0
Behind kernel e at pair o loss lost sent told =
    Since (sending_behind kernel e lost at o) (cond {A = ℕ} (is_loss_at pair e) (lost + 1) loss) (lost + one_if (is_any_loss e)) (cond (kernel == at.kernel && is_send at.tx.0 e) true sent) (sent && cond (kernel == at.kernel && is_resend at.tx.0 e) false (cond (is_loss_at pair e) true told))

and_none : (b : Bool) → (b && false) ≡ false
and_none true = refl
and_none false = refl

fault_on : (met b : Bool) (o : Option ℕ) (loss lost : ℕ) (sent told : Bool) → Since o loss lost sent told → Since o (cond {A = ℕ} (met && b) (lost + 1) loss) (lost + one_if met) sent (sent && cond (met && b) true told)
fault_on true b o loss lost sent told is = loses o loss lost sent told b is
fault_on false b o loss lost sent told is = stays o loss lost sent told is

since_on : (kernel : ℕ) (e : Event) (at : Sender) (pair : Pair) (o : Option ℕ) (loss lost : ℕ) (sent told : Bool) → loss ≤ lost → Since o loss lost sent told → Behind kernel e at pair o loss lost sent told
since_on kernel (event.Send tx to about kind) at pair o loss lost sent told le is =
    subst (λ (b : Bool). Since (once_put (record { kernel = kernel; tx = tx }) lost at o) loss (lost + 0) (cond (kernel == at.kernel && tx.0 == at.tx.0) true sent) (sent && cond b false told)) (sym (and_none (kernel == at.kernel)))
    (goes_once o loss lost sent told (kernel == at.kernel && tx.0 == at.tx.0) le is)
since_on kernel (event.Expire tx false) at pair o loss lost sent told le is =
    subst (λ (b : Bool). Since (again_put (record { kernel = kernel; tx = tx }) lost at o) loss (lost + 0) (cond b true sent) (sent && cond (kernel == at.kernel && (tx.0 == at.tx.0 && true)) false told)) (sym (and_none (kernel == at.kernel)))
    (subst (λ (b : Bool). Since (again_put (record { kernel = kernel; tx = tx }) lost at o) loss (lost + 0) sent (sent && cond (kernel == at.kernel && b) false told)) (sym (and_true (tx.0 == at.tx.0)))
    (goes_again o loss lost sent told (kernel == at.kernel && tx.0 == at.tx.0) le is))
  where
    and_true : (b : Bool) → (b && true) ≡ b
    and_true true = refl
    and_true false = refl
since_on kernel (event.Expire tx true) at pair o loss lost sent told le is =
    subst (λ (b : Bool). Since o loss (lost + 0) (cond b true sent) (sent && cond (kernel == at.kernel && (tx.0 == at.tx.0 && false)) false told)) (sym (and_none (kernel == at.kernel)))
    (subst (λ (b : Bool). Since o loss (lost + 0) sent (sent && cond b false told)) (sym (ap (λ b. kernel == at.kernel && b) (and_none (tx.0 == at.tx.0)) ∙ and_none (kernel == at.kernel)))
    (stays o loss lost sent told is))
since_on kernel (event.Fault a b met) at pair o loss lost sent told le is =
    subst (λ (p : Bool). Since o (cond {A = ℕ} (is_lost met && same_pair pair (pair_of a b)) (lost + 1) loss) (lost + one_if (is_lost met)) (cond p true sent) (sent && cond p false (cond (is_lost met && same_pair pair (pair_of a b)) true told))) (sym (and_none (kernel == at.kernel)))
    (fault_on (is_lost met) (same_pair pair (pair_of a b)) o loss lost sent told is)
since_on kernel _ at pair o loss lost sent told le is =
    subst (λ (p : Bool). Since o loss (lost + 0) (cond p true sent) (sent && cond p false told)) (sym (and_none (kernel == at.kernel)))
    (stays o loss lost sent told is)

bounded : (b met : Bool) (loss lost : ℕ) → (b ≡ true → met ≡ true) → loss ≤ lost → cond {A = ℕ} b (lost + 1) loss ≤ lost + one_if met
bounded true true loss lost f le = omega arith
bounded true false loss lost f le = absurd (true≢false (sym (f refl)))
bounded false met loss lost f le = omega (arith, le)

is_any : (pair : Pair) (e : Event) → is_loss_at pair e ≡ true → is_any_loss e ≡ true
is_any pair (event.Fault a b met) h = (and_parts (is_lost met) (same_pair pair (pair_of a b)) h).0
is_any pair (event.Burst pid count) h = absurd (true≢false (sym h))
is_any pair _ h = absurd (true≢false (sym h))

pub losses_told_on : (c : Description) (old new : Losses) (past : Past) (rec : Rec) → TellsLosses old past.records → MovesLosses rec.kernel rec.event old new → TellsLosses new (past_with c rec past).records
losses_told_on c old new past rec told moves =
    let e = rec.event in
    let loss_is : (pair : Pair) → pair_count new.losses.entries pair ≡ cond {A = ℕ} (is_loss_at pair e) (old.lost + 1) (pair_count old.losses.entries pair) = λ pair. ap count_or (moves.losses pair) ∙ loss_step e old.lost pair (pair_kept old.losses.entries pair) in
    record {
      packets_told = packets_told_on c old.packets new.packets past rec told.packets_told moves.packets;
      losses_told = λ pair.
          subst (λ (n : ℕ). pair_count new.losses.entries pair ≤ n) (sym moves.lost)
          (subst (λ (n : ℕ). n ≤ old.lost + one_if (is_any_loss e)) (sym (loss_is pair))
          (bounded (is_loss_at pair e) (is_any_loss e) (pair_count old.losses.entries pair) old.lost (is_any pair e) (told.losses_told pair)));
      since_told = λ at pair.
          let here = since_on rec.kernel e at pair (sending_kept old.sendings.entries at) (pair_count old.losses.entries pair) old.lost (was_sent_by at past.records) (lost_since at pair past.records) (told.losses_told pair) (told.since_told at pair) in
          let sent : cond (rec.kernel == at.kernel && is_send at.tx.0 e) true (was_sent_by at past.records) ≡ was_sent_by at (past.records ++ rec ∷ []) = sym (any_more (is_at at.kernel (is_send at.tx.0)) past.records rec) in
          let lost = sym (lost_more at pair past.records rec) in
          let one = subst (λ (b : Bool). Since (sending_behind rec.kernel e old.lost at (sending_kept old.sendings.entries at)) (cond {A = ℕ} (is_loss_at pair e) (old.lost + 1) (pair_count old.losses.entries pair)) (old.lost + one_if (is_any_loss e)) b (was_sent_by at past.records && cond (rec.kernel == at.kernel && is_resend at.tx.0 e) false (cond (is_loss_at pair e) true (lost_since at pair past.records)))) sent here in
          let two = subst (λ (b : Bool). Since (sending_behind rec.kernel e old.lost at (sending_kept old.sendings.entries at)) (cond {A = ℕ} (is_loss_at pair e) (old.lost + 1) (pair_count old.losses.entries pair)) (old.lost + one_if (is_any_loss e)) (was_sent_by at (past.records ++ rec ∷ [])) b) lost one in
          let three = subst (λ (o : Option ℕ). Since o (cond {A = ℕ} (is_loss_at pair e) (old.lost + 1) (pair_count old.losses.entries pair)) (old.lost + one_if (is_any_loss e)) (was_sent_by at (past.records ++ rec ∷ [])) (lost_since at pair (past.records ++ rec ∷ []))) (sym (moves.sendings at)) two in
          let four = subst (λ (n : ℕ). Since (sending_kept new.sendings.entries at) n (old.lost + one_if (is_any_loss e)) (was_sent_by at (past.records ++ rec ∷ [])) (lost_since at pair (past.records ++ rec ∷ []))) (sym (loss_is pair)) three in
          subst (λ (n : ℕ). Since (sending_kept new.sendings.entries at) (pair_count new.losses.entries pair) n (was_sent_by at (past.records ++ rec ∷ [])) (lost_since at pair (past.records ++ rec ∷ []))) (sym moves.lost) four;
    }

-- before the first record
pub no_losses_told : (judge : Losses) → NoPackets judge.packets → judge.losses.entries ≡ [] → judge.sendings.entries ≡ [] → TellsLosses judge []
no_losses_told judge packets losses sendings = record {
  packets_told = told_first judge.packets packets.packets_none packets.faults_none packets.resends_none packets.sent_none packets.counts_none;
  losses_told = λ pair. subst (λ (n : ℕ). n ≤ judge.lost) (sym (ap (λ (m : List (Pair × ℕ)). pair_count m pair) losses)) (omega arith);
  since_told = λ at pair. subst (λ (o : Option ℕ). IsSince o (pair_count judge.losses.entries pair) judge.lost false false) (sym (ap (λ (m : List (Sender × ℕ)). sending_kept m at) sendings)) (refl, refl);
}
