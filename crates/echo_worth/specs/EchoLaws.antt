-- Echoes, broadcasts and what was given up are told record by record.
use Rattle.std.proofs.Common.{◌≡◌, ◌∙◌, ◌≤◌, ℕ, zero, suc, ◌+◌, ◌==◌, Bool, true, false, cond, ◌&&◌, ◌||◌, not, List, [], ◌∷◌, ◌++◌, count_by, Option, Some, None, refl, sym, ap, ap₂, arith}
use Rattle.std.specs.List.{list_any}
use Rattle.std.specs.Option.{option_map}
use Rattle.std.proofs.lemmas.Bool.{and_parts, and_from, eqb-true, eq-eqb, true≢false}
use Rattle.std.proofs.lemmas.List.Sums.{sum_by_push}
use Rattle.sprite_ids.specs.Lists.{one_if}
use Rattle.process_machine.specs.declared.call.Call.{Call}
use Rattle.sprite_ids.specs.declared.names.TxNo.{TxNo}
use Rattle.unix_calls.specs.declared.description.Description.{Description}
use Rattle.unix_calls.specs.declared.event.About.{About}
use Rattle.unix_calls.specs.declared.event.SendKind.{SendKind}
use Rattle.unix_calls.specs.declared.event.SendKind.TheVariants as send
use Rattle.unix_calls.specs.declared.event.Event.{Event}
use Rattle.unix_calls.specs.declared.event.Event.TheVariants as event
use Rattle.unix_calls.specs.declared.event.Rec.{Rec}
use Rattle.call_journal.specs.Past.{Past, holds, kernel_of, no_past, past_with, past_from, some_record}
use Rattle.call_journal.specs.Matching.{is_about, is_at, is_expire, is_last_expire, is_other_kind}
use Rattle.call_journal.specs.Calls.{or_else, is_name_call, issued_call, issued_by}
use Rattle.call_journal.specs.WorthPackets.{is_server, is_other_send_about, is_echo_for, is_limited_kind, is_limited_send, is_given_up_echo, ends_at_eight, is_sent_well}
use Rattle.trace_rules.specs.Lists.{any_more}
use Rattle.trace_places.specs.Places.{TellsPlaces, is_kernel_of, place_kept}
use Rattle.trace_places.specs.PlaceLaws.{kernel_told, places_more}
use Rattle.trace_tables.specs.declared.CallAt.{CallAt}
use Rattle.trace_tables.specs.Calls.{about_of, call_of, same_call}
use Rattle.echo_worth.specs.declared.keys.CallTo.{CallTo}
use Rattle.echo_worth.specs.declared.keys.EchoSlot.{EchoSlot}
use Rattle.echo_worth.specs.declared.keys.OtherAt.{OtherAt}
use Rattle.echo_worth.specs.declared.keys.Sender.{Sender}
use Rattle.echo_worth.specs.declared.kept.Kept.{Kept}
use Rattle.echo_worth.specs.Parts.{echo_well}
use Rattle.echo_worth.specs.Kept.{same_sender, same_to, same_slot, named_kept, is_named, has_other, has_sender, has_to, count_or, sender_kept, sender_count, sender_more, slot_kept, in_slot, slots_have, has_echo, limited_with, counts_with, slots_with, NothingKept}
use Rattle.echo_worth.specs.Echoes.{call_to, other_at, is_echo_by, is_limited_by, may_be_sent, may_come, counts_for, slots_for, others_for, others_sent, counts_sent, slots_sent, named_behind, expires_behind, limited_behind, others_behind, counts_behind, slots_behind, given_behind, GoesOn}
use Rattle.echo_worth.specs.Told.{is_echo_to, number_in, was_given_up, TellsKept}
use Rattle.trace_laws.specs.SomeLaws.{or_false, some_none, some_plain, some_same}
use Rattle.echo_worth.specs.SomeLaws.{some_behind}

-- ---- looking

named_by : (o : Option Call) → holds is_name_call o ≡ is_named (option_map is_name_call o)
named_by None = refl
named_by (Some call) = refl

echo_told : (c : Description) (kept : Kept) (past : Past) (kernel to : ℕ) (about : Option About) → TellsKept c kept past → is_echo_for c past kernel to about ≡ is_echo_by c kept kernel to about
echo_told c kept past kernel to None told = refl
echo_told c kept past kernel to (Some a) told =
    let named = is_named (named_kept kept.named.entries (call_of a)) in
    let here = is_kernel_of kernel (place_kept kept.places.entries a.pid) in
    ap (λ b. is_server c to && b && holds (λ at. at == kernel) (kernel_of past a.pid) && not (list_any (is_at kernel (is_other_send_about a to)) past.records)) (named_by (issued_call a.pid a.number past.records) ∙ sym (ap is_named (told.named_told (call_of a))))
    ∙ ap (λ b. is_server c to && named && b && not (list_any (is_at kernel (is_other_send_about a to)) past.records)) (kernel_told kept.places.entries past a.pid kernel told.places_told)
    ∙ ap (λ b. is_server c to && named && here && not b) (sym (told.others_told (other_at kernel a to)))

kind_told : (c : Description) (kept : Kept) (past : Past) (kernel to : ℕ) (about : Option About) (kind : SendKind) → TellsKept c kept past → is_limited_kind c past kernel to about kind ≡ is_limited_by c kept kernel to about kind
kind_told c kept past kernel to about (send.Broadcast prefix) told = refl
kind_told c kept past kernel to about send.Other told = echo_told c kept past kernel to about told
kind_told c kept past kernel to about _ told = refl

sent_told : (c : Description) (kept : Kept) (past : Past) (to : ℕ) (about : Option About) → TellsKept c kept past → is_sent_well c past to about ≡ may_be_sent kept to about
sent_told c kept past to None told = refl
sent_told c kept past to (Some a) told = ap not (sym (told.given_told (call_to a to)))

pub echoes_judged : (c : Description) (kept : Kept) (past : Past) (kernel : ℕ) (e : Event) → TellsKept c kept past → echo_well c past kernel e ≡ may_come kept kernel e
echoes_judged c kept past kernel (event.Expire tx last) told =
    let at : Sender = record { kernel = kernel; tx = tx } in
    ap₂ (λ l n. cond l (ends_at_eight (n + 1) last) true) (sym (told.limited_told at)) (sym (told.expires_told at))
echoes_judged c kept past kernel (event.Send tx to about kind) told = sent_told c kept past to about told
echoes_judged c kept past kernel _ told = refl

-- ---- names that are equal

sender_is : (a b : Sender) → same_sender a b ≡ true → a ≡ b
sender_is a b h =
    let parts = and_parts (a.kernel == b.kernel) (a.tx.0 == b.tx.0) h in
    ap₂ (λ k n. record { kernel = k; tx = record { 0 = n } }) (eqb-true a.kernel b.kernel parts.0) (eqb-true a.tx.0 b.tx.0 parts.1)

turned_equal : (a b : ℕ) → (a == b) ≡ (b == a)
turned_equal a b = by (a == b) (b == a) refl refl
  where
    by : (p q : Bool) → (a == b) ≡ p → (b == a) ≡ q → p ≡ q
    by true true f g = refl
    by false false f g = refl
    by true false f g = let same = eq-eqb b a (sym (eqb-true a b f)) in sym same ∙ g
    by false true f g = let same = eq-eqb a b (sym (eqb-true b a g)) in sym f ∙ same

sender_turned : (a b : Sender) → same_sender a b ≡ same_sender b a
sender_turned a b = ap₂ (λ p q. p && q) (turned_equal a.kernel b.kernel) (turned_equal a.tx.0 b.tx.0)

-- ---- numbers of eight tries

no_more : (b : Bool) → b ≡ (b || false)
no_more b = sym (or_false b)

quiet : (before h : Bool) → before ≡ (before || (h && false))
quiet true true = refl
quiet true false = refl
quiet false true = refl
quiet false false = refl

limited_cond : (b : Bool) (at other : Sender) (before : Bool) → limited_with b at other before ≡ cond b (cond (same_sender at other) true before) before
limited_cond true at other before = refl
limited_cond false at other before = refl

limited_by : (before h t l m : Bool) → (h ≡ true → m ≡ l) → cond l (cond (h && t) true before) before ≡ (before || (h && (t && m)))
limited_by before true t l m same = ap (λ v. cond v (cond t true before) before) (sym (same refl)) ∙ by before t m
  where
    by : (b u v : Bool) → cond v (cond u true b) b ≡ (b || (u && v))
    by true true true = refl
    by true true false = refl
    by true false true = refl
    by true false false = refl
    by false true true = refl
    by false true false = refl
    by false false true = refl
    by false false false = refl
limited_by before false t l m same = by l before
  where
    by : (v b : Bool) → cond v b b ≡ (b || false)
    by true true = refl
    by true false = refl
    by false true = refl
    by false false = refl

limited_step : (c : Description) (old : Kept) (past : Past) (kernel : ℕ) (e : Event) (at : Sender) (before : Bool) → TellsKept c old past → limited_behind c old kernel e at before ≡ (before || (kernel == at.kernel && is_limited_send c past at.kernel at.tx.0 e))
limited_step c old past kernel (event.Send t to about kind) at before told =
    limited_cond (is_limited_by c old kernel to about kind) (record { kernel = kernel; tx = t }) at before
    ∙ limited_by before (kernel == at.kernel) (t.0 == at.tx.0) (is_limited_by c old kernel to about kind) (is_limited_kind c past at.kernel to about kind) (λ h. sym (ap (λ k. is_limited_kind c past k to about kind) (eqb-true kernel at.kernel h)) ∙ kind_told c old past kernel to about kind told)
limited_step c old past kernel _ at before told = quiet before (kernel == at.kernel)

-- ---- counts

plus_none : (n : ℕ) → n ≡ n + 0
plus_none n = omega arith

count_more : (test : Rec → Bool) (rs : List Rec) (r : Rec) → count_by test (rs ++ r ∷ []) ≡ count_by test rs + one_if (test r)
count_more test rs r = sum_by_push (λ (x : Rec). cond {A = ℕ} (test x) 1 0) rs r ∙ ap (λ n. count_by test rs + n) (by (test r))
  where
    by : (b : Bool) → cond {A = ℕ} b 1 0 ≡ one_if b
    by true = refl
    by false = refl

sender_by : (before : List (Sender × ℕ)) (at other : Sender) (b : Bool) → same_sender at other ≡ b → count_or (cond b (Some (sender_count before at + 1)) (sender_kept before other)) ≡ sender_count before other + one_if b
sender_by before at other true is = ap (λ s. sender_count before s + 1) (sender_is at other is)
sender_by before at other false is = plus_none (sender_count before other)

and_none : (b : Bool) → (b && false) ≡ false
and_none true = refl
and_none false = refl

expires_step : (kernel : ℕ) (e : Event) (before : List (Sender × ℕ)) (at : Sender) → count_or (expires_behind kernel e before at) ≡ sender_count before at + one_if (kernel == at.kernel && is_expire at.tx.0 e)
expires_step kernel (event.Expire tx last) before at = sender_by before (record { kernel = kernel; tx = tx }) at (same_sender (record { kernel = kernel; tx = tx }) at) refl
expires_step kernel _ before at = plus_none (sender_count before at) ∙ ap (λ b. sender_count before at + one_if b) (sym (and_none (kernel == at.kernel)))

-- ---- calls that go by names

or_else_assoc : (a b d : Option Call) → or_else (or_else a b) d ≡ or_else a (or_else b d)
or_else_assoc None b d = refl
or_else_assoc (Some x) b d = refl

or_else_none : (o : Option Call) → or_else o None ≡ o
or_else_none None = refl
or_else_none (Some x) = refl

issued_more : (pid number : ℕ) (rs : List Rec) (r : Rec) → issued_call pid number (rs ++ r ∷ []) ≡ or_else (issued_call pid number rs) (issued_by pid number r.event)
issued_more pid number [] r = or_else_none (issued_by pid number r.event)
issued_more pid number (x ∷ rs) r =
    ap (or_else (issued_by pid number x.event)) (issued_more pid number rs r)
    ∙ sym (or_else_assoc (issued_by pid number x.event) (issued_call pid number rs) (issued_by pid number r.event))

mapped : (a b : Option Call) → option_map is_name_call (or_else a b) ≡ or_else (option_map is_name_call a) (option_map is_name_call b)
mapped None b = refl
mapped (Some x) b = refl

bool_none : (o : Option Bool) → o ≡ or_else o None
bool_none None = refl
bool_none (Some x) = refl

put_by : (b : Bool) (o : Option Bool) (call : Call) → cond b (or_else o (Some (is_name_call call))) o ≡ or_else o (option_map is_name_call (cond b (Some call) None))
put_by true o call = refl
put_by false o call = bool_none o

named_step : (e : Event) (at : CallAt) (o : Option Bool) → named_behind e at o ≡ or_else o (option_map is_name_call (issued_by at.pid at.number e))
named_step (event.Issue pid number call) at o = put_by (same_call (record { pid = pid; number = number }) at) o call
named_step _ at o = bool_none o

-- ---- packets of no stated kind

and_yes : (b : Bool) → b ≡ (b && true)
and_yes true = refl
and_yes false = refl

others_none : (h before : Bool) → before ≡ cond (h && false) true before
others_none true before = refl
others_none false before = refl

and_no : (h p : Bool) (before : Bool) → before ≡ cond (h && (p && false)) true before
and_no true true before = refl
and_no true false before = refl
and_no false p before = refl

others_by : (kernel s : ℕ) (about : Option About) (one : OtherAt) (before : Bool) → others_for kernel s about one before ≡ cond (kernel == one.kernel && (is_about one.call.call.pid one.call.call.number about && s == one.call.to && true)) true before
others_by kernel s None one before = others_none (kernel == one.kernel) before
others_by kernel s (Some a) one before = ap (λ b. cond (kernel == one.kernel && b) true before) (and_yes (same_call (call_of a) one.call.call && s == one.call.to))

others_kind : (kernel s : ℕ) (about : Option About) (kind : SendKind) (one : OtherAt) (before : Bool) → others_sent kernel s about kind one before ≡ cond (kernel == one.kernel && (is_about one.call.call.pid one.call.call.number about && s == one.call.to && is_other_kind kind)) true before
others_kind kernel s about send.Other one before = others_by kernel s about one before
others_kind kernel s about _ one before = and_no (kernel == one.kernel) (is_about one.call.call.pid one.call.call.number about && s == one.call.to) before

others_step : (kernel : ℕ) (e : Event) (one : OtherAt) (before : Bool) → others_behind kernel e one before ≡ cond (kernel == one.kernel && is_other_send_about (about_of one.call.call) one.call.to e) true before
others_step kernel (event.Send t s about kind) one before = others_kind kernel s about kind one before
others_step kernel _ one before = others_none (kernel == one.kernel) before

-- ---- echoes by their numbers

slots_same : (slots after : List (EchoSlot × CallTo)) (at : Sender) (to : CallTo) → ((slot : EchoSlot) → slot_kept after slot ≡ slot_kept slots slot) → (n : ℕ) → slots_have after at n to ≡ slots_have slots at n to
slots_same slots after at to same zero = refl
slots_same slots after at to same (suc n) = ap₂ (λ a o. a || in_slot o to) (slots_same slots after at to same n) (same (record { at = at; place = n }))

false_of : (b : Bool) → (b ≡ true → ⊥) → b ≡ false
false_of true f = absurd (f refl)
false_of false f = refl

abbrev Puts : Sender → CallTo → List (Sender × ℕ) → List (EchoSlot × CallTo) → List (EchoSlot × CallTo) → Type 0
Puts at to counts slots after = (slot : EchoSlot) → slot_kept after slot ≡ cond (same_slot (record { at = at; place = sender_count counts at }) slot) (Some to) (slot_kept slots slot)

slots_still : (a at : Sender) (t to : CallTo) (counts : List (Sender × ℕ)) (slots after : List (EchoSlot × CallTo)) (n : ℕ) → Puts a t counts slots after → (same_sender a at ≡ true → n ≤ sender_count counts a) → slots_have after at n to ≡ slots_have slots at n to
slots_still a at t to counts slots after zero put short = refl
slots_still a at t to counts slots after (suc n) put short =
    ap₂ (λ b o. b || in_slot o to)
    (slots_still a at t to counts slots after n put (λ same. let le = short same in omega (arith, le)))
    (put (record { at = at; place = n }) ∙ ap (λ b. cond b (Some t) (slot_kept slots (record { at = at; place = n }))) (false_of (same_sender a at && sender_count counts a == n) no))
  where
    no : (same_sender a at && sender_count counts a == n) ≡ true → ⊥
    no e =
        let parts = and_parts (same_sender a at) (sender_count counts a == n) e in
        let le = short parts.0 in
        let is = eqb-true (sender_count counts a) n parts.1 in
        omega (arith, le, is)

slots_put : (a at : Sender) (t to : CallTo) (counts counts_after : List (Sender × ℕ)) (slots after : List (EchoSlot × CallTo)) (b : Bool) → ((other : Sender) → sender_kept counts_after other ≡ sender_more a counts other) → Puts a t counts slots after → same_sender a at ≡ b → slots_have after at (sender_count counts_after at) to ≡ (slots_have slots at (sender_count counts at) to || (b && same_to t to))
slots_put a at t to counts counts_after slots after false more put is =
    let count : sender_count counts_after at ≡ sender_count counts at = ap count_or (more at) ∙ ap (λ b. count_or (cond b (Some (sender_count counts a + 1)) (sender_kept counts at))) is in
    ap (λ n. slots_have after at n to) count
    ∙ slots_still a at t to counts slots after (sender_count counts at) put (λ e. absurd (true≢false (sym e ∙ is)))
    ∙ sym (or_false (slots_have slots at (sender_count counts at) to))
slots_put a at t to counts counts_after slots after true more put is =
    let same : sender_count counts a ≡ sender_count counts at = ap (sender_count counts) (sender_is a at is) in
    let kept : sender_count counts_after at ≡ sender_count counts a + 1 = ap count_or (more at) ∙ ap (λ b. count_or (cond b (Some (sender_count counts a + 1)) (sender_kept counts at))) is in
    let count : sender_count counts_after at ≡ suc (sender_count counts at) = omega (arith, kept, same) in
    ap (λ n. slots_have after at n to) count
    ∙ ap₂ (λ b o. b || in_slot o to)
    (slots_still a at t to counts slots after (sender_count counts at) put (λ e. omega (arith, same)))
    (put (record { at = at; place = sender_count counts at }) ∙ ap (λ b. cond b (Some t) (slot_kept slots (record { at = at; place = sender_count counts at }))) (and_from (same_sender a at) (sender_count counts a == sender_count counts at) is (eq-eqb (sender_count counts a) (sender_count counts at) same)))

-- what a packet of a kernel adds
abbrev Adds : Description → Kept → Kept → ℕ → Event → Type 0
Adds c old new kernel e =
    ((other : Sender) → sender_kept new.counts.entries other ≡ counts_behind c old kernel e other)
    × ((slot : EchoSlot) → slot_kept new.slots.entries slot ≡ slots_behind c old kernel e slot)

stays_so : (old new : Kept) (at : Sender) (to : CallTo) → ((other : Sender) → sender_kept new.counts.entries other ≡ sender_kept old.counts.entries other) → ((slot : EchoSlot) → slot_kept new.slots.entries slot ≡ slot_kept old.slots.entries slot) → has_echo new at to ≡ has_echo old at to
stays_so old new at to counts slots =
    ap (λ n. slots_have new.slots.entries at n to) (ap count_or (counts at))
    ∙ slots_same old.slots.entries new.slots.entries at to slots (sender_count old.counts.entries at)

-- an echo that goes is one to that kernel for that call where both are the same
echo_yes : (w y p s z : Bool) → (s ≡ true → z ≡ true) → (w || (y && (p && s))) ≡ (w || (p && s && z && y))
echo_yes w y p true z f = by w y p ∙ ap (λ v. w || (p && true && v && y)) (sym (f refl))
  where
    by : (a b d : Bool) → (a || (b && (d && true))) ≡ (a || (d && true && true && b))
    by a true true = refl
    by a true false = refl
    by a false true = refl
    by a false false = refl
echo_yes w y p false z f = by w y p
  where
    by : (a b d : Bool) → (a || (b && (d && false))) ≡ (a || (d && false && z && b))
    by a true true = refl
    by a true false = refl
    by a false true = refl
    by a false false = refl

echo_no : (w y p s z : Bool) → (s ≡ true → z ≡ false) → w ≡ (w || (p && s && z && y))
echo_no w y p true z f = sym (or_false w) ∙ by w y p ∙ ap (λ v. w || (p && true && v && y)) (sym (f refl))
  where
    by : (a b d : Bool) → (a || false) ≡ (a || (d && true && false && b))
    by a b true = refl
    by a b false = refl
echo_no w y p false z f = sym (or_false w) ∙ by w y p
  where
    by : (a b d : Bool) → (a || false) ≡ (a || (d && false && z && b))
    by a b true = refl
    by a b false = refl

-- the same where it goes for the sake of no call, or isn't of no stated kind
nothing : (w y : Bool) → w ≡ (w || (false && y))
nothing w y = sym (or_false w)

echo_adds : (c : Description) (old new : Kept) (past : Past) (kernel s : ℕ) (tx : TxNo) (a : About) (at : Sender) (to : CallTo) (b : Bool) → TellsKept c old past → is_echo_by c old kernel s (Some a) ≡ b → ((other : Sender) → sender_kept new.counts.entries other ≡ counts_with b (record { kernel = kernel; tx = tx }) old.counts.entries other) → ((slot : EchoSlot) → slot_kept new.slots.entries slot ≡ slots_with b (record { kernel = kernel; tx = tx }) (call_to a s) old.counts.entries slot (slot_kept old.slots.entries slot)) → has_echo new at to ≡ (has_echo old at to || (is_about to.call.pid to.call.number (Some a) && s == to.to && is_echo_for c past kernel to.to (Some a) && (at.kernel == kernel && at.tx.0 == tx.0)))
echo_adds c old new past kernel s tx a at to true told is counts slots =
    let from : Sender = record { kernel = kernel; tx = tx } in
    slots_put from at (call_to a s) to old.counts.entries new.counts.entries old.slots.entries new.slots.entries (same_sender from at) counts slots refl
    ∙ echo_yes (has_echo old at to) (same_sender from at) (same_call (call_of a) to.call) (s == to.to) (is_echo_for c past kernel to.to (Some a)) (λ h. sym (ap (λ k. is_echo_for c past kernel k (Some a)) (eqb-true s to.to h)) ∙ echo_told c old past kernel s (Some a) told ∙ is)
    ∙ ap (λ y. has_echo old at to || (same_call (call_of a) to.call && s == to.to && is_echo_for c past kernel to.to (Some a) && y)) (sender_turned from at)
echo_adds c old new past kernel s tx a at to false told is counts slots =
    stays_so old new at to counts slots
    ∙ echo_no (has_echo old at to) (at.kernel == kernel && at.tx.0 == tx.0) (same_call (call_of a) to.call) (s == to.to) (is_echo_for c past kernel to.to (Some a)) (λ h. sym (ap (λ k. is_echo_for c past kernel k (Some a)) (eqb-true s to.to h)) ∙ echo_told c old past kernel s (Some a) told ∙ is)

other_adds : (c : Description) (old new : Kept) (past : Past) (kernel s : ℕ) (tx : TxNo) (about : Option About) (at : Sender) (to : CallTo) → TellsKept c old past → ((other : Sender) → sender_kept new.counts.entries other ≡ counts_for c old (record { kernel = kernel; tx = tx }) s about other) → ((slot : EchoSlot) → slot_kept new.slots.entries slot ≡ slots_for c old (record { kernel = kernel; tx = tx }) s about slot) → has_echo new at to ≡ (has_echo old at to || (is_about to.call.pid to.call.number about && s == to.to && is_echo_for c past kernel to.to about && (at.kernel == kernel && at.tx.0 == tx.0)))
other_adds c old new past kernel s tx None at to told counts slots = stays_so old new at to counts slots ∙ nothing (has_echo old at to) (at.kernel == kernel && at.tx.0 == tx.0)
other_adds c old new past kernel s tx (Some a) at to told counts slots = echo_adds c old new past kernel s tx a at to (is_echo_by c old kernel s (Some a)) told refl counts slots

kind_adds : (c : Description) (old new : Kept) (past : Past) (kernel s : ℕ) (tx : TxNo) (about : Option About) (kind : SendKind) (at : Sender) (to : CallTo) → TellsKept c old past → ((other : Sender) → sender_kept new.counts.entries other ≡ counts_sent c old (record { kernel = kernel; tx = tx }) s about kind other) → ((slot : EchoSlot) → slot_kept new.slots.entries slot ≡ slots_sent c old (record { kernel = kernel; tx = tx }) s about kind slot) → has_echo new at to ≡ (has_echo old at to || (is_echo_to c past kernel to (event.Send tx s about kind) && (at.kernel == kernel && at.tx.0 == tx.0)))
kind_adds c old new past kernel s tx about send.Other at to told counts slots = other_adds c old new past kernel s tx about at to told counts slots
kind_adds c old new past kernel s tx about _ at to told counts slots = stays_so old new at to counts slots ∙ nothing (has_echo old at to) (at.kernel == kernel && at.tx.0 == tx.0)

echoes_step : (c : Description) (old new : Kept) (past : Past) (kernel : ℕ) (e : Event) (at : Sender) (to : CallTo) → TellsKept c old past → Adds c old new kernel e → has_echo new at to ≡ (has_echo old at to || (is_echo_to c past kernel to e && (at.kernel == kernel && at.tx.0 == number_in e)))
echoes_step c old new past kernel (event.Send tx s about kind) at to told adds = kind_adds c old new past kernel s tx about kind at to told adds.0 adds.1
echoes_step c old new past kernel _ at to told adds = stays_so old new at to adds.0 adds.1 ∙ nothing (has_echo old at to) (at.kernel == kernel && at.tx.0 == 0)

-- ---- what was given up

given_is : (c : Description) (earlier : Past) (kernel : ℕ) (to : CallTo) (e : Event) (rest : List Rec) → is_given_up_echo c earlier kernel (about_of to.call) to.to e rest ≡ (is_echo_to c earlier kernel to e && list_any (is_at kernel (is_last_expire (number_in e))) rest)
given_is c earlier kernel to (event.Send t s about send.Other) rest = refl
given_is c earlier kernel to (event.Send t s about (send.Op file)) rest = refl
given_is c earlier kernel to (event.Send t s about _) rest = refl
given_is c earlier kernel to _ rest = refl

-- a last try ends those that went with its number
ended : (c : Description) (earlier : Past) (kernel : ℕ) (tx : TxNo) (to : CallTo) (r : Rec) → (is_echo_to c earlier r.kernel to r.event && (kernel == r.kernel && (tx.0 == number_in r.event && true))) ≡ (is_echo_to c earlier r.kernel to r.event && (kernel == r.kernel && tx.0 == number_in r.event))
ended c earlier kernel tx to r = ap (λ b. is_echo_to c earlier r.kernel to r.event && (kernel == r.kernel && b)) (sym (and_yes (tx.0 == number_in r.event)))

not_ended : (p h : Bool) → (p && (h && false)) ≡ false
not_ended true true = refl
not_ended true false = refl
not_ended false h = refl

ended_by : (c : Description) (old : Kept) (past : Past) (kernel : ℕ) (e : Event) (to : CallTo) → TellsKept c old past → given_behind old kernel e to ≡ (has_to old.given_up.keys to || some_record c (λ earlier r rest. is_echo_to c earlier r.kernel to r.event && is_at r.kernel (is_last_expire (number_in r.event)) (record { kernel = kernel; event = e })) past.records)
ended_by c old past kernel (event.Expire tx true) to told =
    ap (λ b. has_to old.given_up.keys to || b)
    (told.echoes_told (record { kernel = kernel; tx = tx }) to
    ∙ sym (some_same c (λ earlier r rest. is_echo_to c earlier r.kernel to r.event && is_at r.kernel (is_last_expire (number_in r.event)) (record { kernel = kernel; event = event.Expire tx true })) (λ earlier r rest. is_echo_to c earlier r.kernel to r.event && (kernel == r.kernel && tx.0 == number_in r.event)) (no_past c) past.records (λ earlier r rest. ended c earlier kernel tx to r)))
ended_by c old past kernel (event.Expire tx false) to told =
    sym (ap (λ b. has_to old.given_up.keys to || b) (some_none c (λ earlier r rest. is_echo_to c earlier r.kernel to r.event && is_at r.kernel (is_last_expire (number_in r.event)) (record { kernel = kernel; event = event.Expire tx false })) (no_past c) past.records (λ earlier r rest. ap (λ b. is_echo_to c earlier r.kernel to r.event && (kernel == r.kernel && b)) (and_none (tx.0 == number_in r.event)) ∙ not_ended (is_echo_to c earlier r.kernel to r.event) (kernel == r.kernel))) ∙ or_false (has_to old.given_up.keys to))
ended_by c old past kernel e to told =
    sym (ap (λ b. has_to old.given_up.keys to || b) (some_none c (λ earlier r rest. is_echo_to c earlier r.kernel to r.event && is_at r.kernel (is_last_expire (number_in r.event)) (record { kernel = kernel; event = e })) (no_past c) past.records (λ earlier r rest. not_ended (is_echo_to c earlier r.kernel to r.event) (kernel == r.kernel))) ∙ or_false (has_to old.given_up.keys to))

-- ---- one record more

past_more : (c : Description) (past : Past) (records : List Rec) (rec : Rec) → past_from c past (records ++ rec ∷ []) ≡ past_with c rec (past_from c past records)
past_more c past [] rec = refl
past_more c past (r ∷ rs) rec = past_more c (past_with c r past) rs rec

given_step : (c : Description) (old new : Kept) (past : Past) (rec : Rec) (to : CallTo) → TellsKept c old past → GoesOn c rec.kernel rec.event old new → has_to new.given_up.keys to ≡ was_given_up c to (past.records ++ rec ∷ [])
given_step c old new past rec to told more =
    let first : Past → Rec → Bool = λ earlier r. is_echo_to c earlier r.kernel to r.event in
    let second : Rec → Rec → Bool = λ r x. is_at r.kernel (is_last_expire (number_in r.event)) x in
    let is = λ (records : List Rec). some_same c (λ earlier r rest. is_given_up_echo c earlier r.kernel (about_of to.call) to.to r.event rest) (λ earlier r rest. first earlier r && list_any (second r) rest) (no_past c) records (λ earlier r rest. given_is c earlier r.kernel to r.event rest) in
    more.given_up to
    ∙ ended_by c old past rec.kernel rec.event to told
    ∙ ap (λ b. b || some_record c (λ earlier r rest. first earlier r && second r rec) past.records) (told.given_told to ∙ is past.records)
    ∙ sym (some_behind c first second (no_past c) past.records rec)
    ∙ sym (is (past.records ++ rec ∷ []))

pub echoes_go_on : (c : Description) (old new : Kept) (past : Past) (rec : Rec) → TellsKept c old past → GoesOn c rec.kernel rec.event old new → TellsKept c new (past_with c rec past)
echoes_go_on c old new past rec told more =
    let here : past_from c (no_past c) past.records ≡ past = sym told.all in
    record {
      all = ap (past_with c rec) told.all ∙ sym (past_more c (no_past c) past.records rec);
      places_told = places_more rec.kernel rec.event old.places.entries new.places.entries past.processes told.places_told more.places;
      named_told = λ call.
          more.named call
          ∙ named_step rec.event call (named_kept old.named.entries call)
          ∙ ap (λ o. or_else o (option_map is_name_call (issued_by call.pid call.number rec.event))) (told.named_told call)
          ∙ sym (mapped (issued_call call.pid call.number past.records) (issued_by call.pid call.number rec.event))
          ∙ sym (ap (option_map is_name_call) (issued_more call.pid call.number past.records rec));
      others_told = λ one.
          more.others one
          ∙ others_step rec.kernel rec.event one (has_other old.others.keys one)
          ∙ ap (λ b. cond (rec.kernel == one.kernel && is_other_send_about (about_of one.call.call) one.call.to rec.event) true b) (told.others_told one)
          ∙ sym (any_more (is_at one.kernel (is_other_send_about (about_of one.call.call) one.call.to)) past.records rec);
      limited_told = λ at.
          more.limited at
          ∙ limited_step c old past rec.kernel rec.event at (has_sender old.limited.keys at) told
          ∙ ap (λ b. b || (rec.kernel == at.kernel && is_limited_send c past at.kernel at.tx.0 rec.event)) (told.limited_told at)
          ∙ sym (some_plain c (λ earlier r. r.kernel == at.kernel && is_limited_send c earlier at.kernel at.tx.0 r.event) past (no_past c) past.records rec here);
      expires_told = λ at.
          ap count_or (more.expires at)
          ∙ expires_step rec.kernel rec.event old.expires.entries at
          ∙ ap (λ n. n + one_if (rec.kernel == at.kernel && is_expire at.tx.0 rec.event)) (told.expires_told at)
          ∙ sym (count_more (is_at at.kernel (is_expire at.tx.0)) past.records rec);
      echoes_told = λ at to.
          echoes_step c old new past rec.kernel rec.event at to told (more.counts, more.slots)
          ∙ ap (λ b. b || (is_echo_to c past rec.kernel to rec.event && (at.kernel == rec.kernel && at.tx.0 == number_in rec.event))) (told.echoes_told at to)
          ∙ sym (some_plain c (λ earlier r. is_echo_to c earlier r.kernel to r.event && (at.kernel == r.kernel && at.tx.0 == number_in r.event)) past (no_past c) past.records rec here);
      given_told = λ to. given_step c old new past rec to told more;
    }

-- before the first record
pub nothing_told : (c : Description) (kept : Kept) → NothingKept kept → TellsPlaces kept.places.entries (no_past c).processes → TellsKept c kept (no_past c)
nothing_told c kept nothing_is places = record {
  all = refl;
  places_told = places;
  named_told = λ call. ap (λ (m : List (CallAt × Bool)). named_kept m call) nothing_is.named;
  others_told = λ one. ap (λ (m : List OtherAt). has_other m one) nothing_is.others;
  limited_told = λ at. ap (λ (m : List Sender). has_sender m at) nothing_is.limited;
  expires_told = λ at. ap (λ (m : List (Sender × ℕ)). sender_count m at) nothing_is.expires;
  echoes_told = λ at to. ap (λ (m : List (Sender × ℕ)). slots_have kept.slots.entries at (sender_count m at) to) nothing_is.counts;
  given_told = λ to. ap (λ (m : List CallTo). has_to m to) nothing_is.given_up;
}
