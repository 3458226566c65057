-- What went between kernels is told record by record.
use Rattle.std.proofs.Common.{◌≡◌, ◌∙◌, ℕ, zero, suc, ◌+◌, ◌≤◌, ◌==◌, Bool, true, false, cond, ◌&&◌, not, ◌⊎◌, inl, inr, ◌⊎◌, inl, inr, ◌⊎◌, inl, inr, List, [], ◌∷◌, ◌++◌, Some, None, nat_le, nat_lt, count_by, refl, sym, ap, subst, arith}
use Rattle.std.proofs.lemmas.Bool.{and_parts, and_from, or_left, or_right, or_cases, eqb-true, eq-eqb, leb-true, leb-false, le-leb, lt-ltb, ltb-true}
use Rattle.std.proofs.lemmas.List.Sums.{sum_by-cons, sum_by_push}
use Rattle.sprite_ids.specs.Lists.{one_if}
use Rattle.sprite_ids.specs.declared.names.TxNo.{TxNo}
use Rattle.unix_calls.specs.declared.description.Description.{Description}
use Rattle.unix_calls.specs.declared.event.Event.{Event}
use Rattle.unix_calls.specs.declared.event.Event.TheVariants as event
use Rattle.unix_calls.specs.declared.event.Rec.{Rec}
use Rattle.call_journal.specs.Past.{Past, past_with}
use Rattle.call_journal.specs.Matching.{has_event, is_fault, is_resend, is_pair}
use Rattle.call_journal.specs.WorthPackets.{is_send_between, was_sent_between, is_packet, packets}
use Rattle.trace_rules.specs.Lists.{any_more}
use Rattle.packet_worth.specs.declared.pairs.Pair.{Pair}
use Rattle.packet_worth.specs.declared.pairs.Sent.{Sent}
use Rattle.packet_worth.specs.declared.pairs.Slot.{Slot}
use Rattle.packet_worth.specs.declared.faults.Packets.{Packets}
use Rattle.packet_worth.specs.Counts.{count_or, number_kept, number_count, NumberCounted}
use Rattle.packet_worth.specs.Faults.{faults_well}
use Rattle.packet_worth.specs.Pairs.{same_pair, same_sent, same_slot, pair_of, pair_kept, pair_count, slot_kept, has_sent, times_if, in_slot, slot_count, Adds, PutsSlot, SendsAgain, SendsFirst, SendsOn, ResendsOn, FaultsOn, MovesOn, may_fault, TellsPackets}

-- ---- pairs

both_true : (s t : Bool) → (s ≡ true → t ≡ true) → (t ≡ true → s ≡ true) → s ≡ t
both_true true t f g = sym (f refl)
both_true false true f g = g refl
both_true false false f g = refl

equal_both : (a b c d : ℕ) → (a == b && c == d) ≡ true → (a ≡ b) × (c ≡ d)
equal_both a b c d e = let parts = and_parts (a == b) (c == d) e in (eqb-true a b parts.0, eqb-true c d parts.1)

both_equal : (a b c d : ℕ) → (a ≡ b) × (c ≡ d) → (a == b && c == d) ≡ true
both_equal a b c d e = and_from (a == b) (c == d) (eq-eqb a b e.0) (eq-eqb c d e.1)

-- the same two numbers, in one order or the other
orders : (l h m n x y a b : ℕ) → ((l ≡ m) × (h ≡ n) → ((x ≡ a) × (y ≡ b)) ⊎ ((x ≡ b) × (y ≡ a))) → ((x ≡ a) × (y ≡ b) → (l ≡ m) × (h ≡ n)) → ((x ≡ b) × (y ≡ a) → (l ≡ m) × (h ≡ n)) → (l == m && h == n) ≡ is_pair x y a b
orders l h m n x y a b there back turned = both_true (l == m && h == n) (is_pair x y a b) one two
  where
    one : (l == m && h == n) ≡ true → is_pair x y a b ≡ true
    one e = by (there (equal_both l m h n e))
      where
        by : ((x ≡ a) × (y ≡ b)) ⊎ ((x ≡ b) × (y ≡ a)) → is_pair x y a b ≡ true
        by (inl f) = or_left (x == a && y == b) (x == b && y == a) (both_equal x a y b f)
        by (inr f) = or_right (x == a && y == b) (x == b && y == a) (both_equal x b y a f)

    two : is_pair x y a b ≡ true → (l == m && h == n) ≡ true
    two e = by (or_cases (x == a && y == b) (x == b && y == a) e)
      where
        by : ((x == a && y == b) ≡ true) ⊎ ((x == b && y == a) ≡ true) → (l == m && h == n) ≡ true
        by (inl f) = both_equal l m h n (back (equal_both x a y b f))
        by (inr f) = both_equal l m h n (turned (equal_both x b y a f))

lows : (x y a b : ℕ) (p q : Bool) → nat_le x y ≡ p → nat_le a b ≡ q → same_pair (cond {A = Pair} p (record { low = x; high = y }) (record { low = y; high = x })) (cond {A = Pair} q (record { low = a; high = b }) (record { low = b; high = a })) ≡ is_pair x y a b
lows x y a b true true xy ab =
    let s = leb-true x y xy in
    let t = leb-true a b ab in
    orders x y a b x y a b (λ e. inl e) (λ e. e) (λ e. let f = e.0 in let g = e.1 in (omega (arith, s, t, f, g), omega (arith, s, t, f, g)))
lows x y a b true false xy ab =
    let s = leb-true x y xy in
    let t = leb-false a b ab in
    orders x y b a x y a b (λ e. inr e) (λ e. let f = e.0 in let g = e.1 in (omega (arith, s, t, f, g), omega (arith, s, t, f, g))) (λ e. e)
lows x y a b false true xy ab =
    let s = leb-false x y xy in
    let t = leb-true a b ab in
    orders y x a b x y a b (λ e. inr (e.1, e.0)) (λ e. let f = e.0 in let g = e.1 in (omega (arith, s, t, f, g), omega (arith, s, t, f, g))) (λ e. (e.1, e.0))
lows x y a b false false xy ab =
    let s = leb-false x y xy in
    let t = leb-false a b ab in
    orders y x b a x y a b (λ e. inl (e.1, e.0)) (λ e. (e.1, e.0)) (λ e. let f = e.0 in let g = e.1 in (omega (arith, s, t, f, g), omega (arith, s, t, f, g)))

pairs_same : (x y a b : ℕ) → same_pair (pair_of x y) (pair_of a b) ≡ is_pair x y a b
pairs_same x y a b = lows x y a b (nat_le x y) (nat_le a b) refl refl

-- ---- counts

count_first : {A : Type 0} (test : A → Bool) (x : A) (xs : List A) → count_by test (x ∷ xs) ≡ one_if (test x) + count_by test xs
count_first {A} test x xs = sum_by-cons (λ (y : A). cond {A = ℕ} (test y) 1 0) x xs ∙ ap (λ n. n + count_by test xs) (by (test x))
  where
    by : (b : Bool) → cond {A = ℕ} b 1 0 ≡ one_if b
    by true = refl
    by false = refl

count_more : (test : Rec → Bool) (rs : List Rec) (r : Rec) → count_by test (rs ++ r ∷ []) ≡ count_by test rs + one_if (test r)
count_more test rs r = sum_by_push (λ (x : Rec). cond {A = ℕ} (test x) 1 0) rs r ∙ ap (λ n. count_by test rs + n) (by (test r))
  where
    by : (b : Bool) → cond {A = ℕ} b 1 0 ≡ one_if b
    by true = refl
    by false = refl

-- a count that is the sum of two others
count_sum : (f g h : Rec → Bool) (rs : List Rec) → ((r : Rec) → one_if (f r) ≡ one_if (g r) + one_if (h r)) → count_by f rs ≡ count_by g rs + count_by h rs
count_sum f g h [] each = refl
count_sum f g h (r ∷ rs) each =
    let a = count_first f r rs in
    let b = count_first g r rs in
    let c = count_first h r rs in
    let d = each r in
    let e = count_sum f g h rs each in
    omega (arith, a, b, c, d, e)

count_none : (test : Rec → Bool) (rs : List Rec) → count_by (λ (r : Rec). false && test r) rs ≡ 0
count_none test [] = refl
count_none test (r ∷ rs) = count_first (λ (x : Rec). false && test x) r rs ∙ ap (λ n. 0 + n) (count_none test rs)

count_if : (b : Bool) (test : Rec → Bool) (rs : List Rec) → count_by (λ (r : Rec). b && test r) rs ≡ times_if b (count_by test rs)
count_if true test rs = refl
count_if false test rs = count_none test rs

-- ---- what was sent between two kernels

sent_more : (t a b : ℕ) (rs : List Rec) (r : Rec) → was_sent_between t a b (rs ++ r ∷ []) ≡ cond (is_send_between t a b r r.event) true (was_sent_between t a b rs)
sent_more t a b rs r = any_more (λ (x : Rec). is_send_between t a b x x.event) rs r

none_if : (b : Bool) (n : ℕ) → n ≡ n + one_if (b && false)
none_if true n = omega arith
none_if false n = omega arith

-- where a call goes out between two kernels for the first time, its resends so far are packets there too
packet_sum : (a b : ℕ) (before after : List Rec) (tx : ℕ) (fresh : Bool) → ((t : ℕ) → one_if (was_sent_between t a b after) ≡ one_if (was_sent_between t a b before) + one_if (fresh && t == tx)) → (x : Rec) (e : Event) → one_if (is_packet a b after x e) ≡ one_if (is_packet a b before x e) + one_if (fresh && is_resend tx e)
packet_sum a b before after tx fresh more x (event.Send t to about kind) = none_if fresh (one_if (is_pair x.kernel to a b))
packet_sum a b before after tx fresh more x (event.Deliver t from reply about) = none_if fresh (one_if (not reply && is_pair x.kernel from a b))
packet_sum a b before after tx fresh more x (event.Expire t true) = last fresh (t.0 == tx)
  where
    last : (f d : Bool) → 0 ≡ 0 + one_if (f && (d && false))
    last true true = refl
    last true false = refl
    last false d = refl
packet_sum a b before after tx fresh more x (event.Expire t false) = more t.0 ∙ ap (λ n. one_if (was_sent_between t.0 a b before) + n) (on fresh (t.0 == tx))
  where
    on : (f d : Bool) → one_if (f && d) ≡ one_if (f && (d && true))
    on true true = refl
    on true false = refl
    on false d = refl
packet_sum a b before after tx fresh more x _ = none_if fresh 0

packets_more : (a b : ℕ) (rs : List Rec) (r : Rec) (tx : ℕ) (fresh : Bool) → ((t : ℕ) → one_if (was_sent_between t a b (rs ++ r ∷ [])) ≡ one_if (was_sent_between t a b rs) + one_if (fresh && t == tx)) → packets a b (rs ++ r ∷ []) ≡ (packets a b rs + times_if fresh (count_by (has_event (is_resend tx)) rs)) + one_if (is_packet a b (rs ++ r ∷ []) r r.event)
packets_more a b rs r tx fresh more =
    count_more (λ (x : Rec). is_packet a b (rs ++ r ∷ []) x x.event) rs r
    ∙ ap (λ n. n + one_if (is_packet a b (rs ++ r ∷ []) r r.event))
    (count_sum (λ (x : Rec). is_packet a b (rs ++ r ∷ []) x x.event) (λ (x : Rec). is_packet a b rs x x.event) (λ (x : Rec). fresh && is_resend tx x.event) rs (λ x. packet_sum a b rs (rs ++ r ∷ []) tx fresh more x x.event)
    ∙ ap (λ n. packets a b rs + n) (count_if fresh (has_event (is_resend tx)) rs))

-- ---- one more of a pair

same_count : (counts : List (Pair × ℕ)) (p q : Pair) → same_pair p q ≡ true → pair_count counts p ≡ pair_count counts q
same_count counts p q is =
    let parts = equal_both p.low q.low p.high q.high is in
    ap (λ (n : ℕ). pair_count counts (record { low = n; high = p.high })) parts.0
    ∙ ap (λ (n : ℕ). pair_count counts (record { low = q.low; high = n })) parts.1

added : (pair other : Pair) (more : ℕ) (before : List (Pair × ℕ)) (b : Bool) → same_pair pair other ≡ b → count_or (cond b (Some (pair_count before pair + more)) (pair_kept before other)) ≡ pair_count before other + times_if b more
added pair other more before true is = ap (λ n. n + more) (same_count before pair other is)
added pair other more before false is = omega arith

adds_more : (x y a b more : ℕ) (before after : List (Pair × ℕ)) → Adds (pair_of x y) more before after → pair_count after (pair_of a b) ≡ pair_count before (pair_of a b) + times_if (is_pair x y a b) more
adds_more x y a b more before after adds =
    ap count_or (adds (pair_of a b))
    ∙ added (pair_of x y) (pair_of a b) more before (same_pair (pair_of x y) (pair_of a b)) refl
    ∙ ap (λ c. pair_count before (pair_of a b) + times_if c more) (pairs_same x y a b)

one_times : (b : Bool) → times_if b 1 ≡ one_if b
one_times true = refl
one_times false = refl

number_added : (tx other : TxNo) (before : List (TxNo × ℕ)) (b : Bool) → (tx.0 == other.0) ≡ b → count_or (cond b (Some (number_count before tx + 1)) (number_kept before other)) ≡ number_count before other + one_if b
number_added tx other before true is = ap (λ (n : ℕ). number_count before (record { 0 = n }) + 1) (eqb-true tx.0 other.0 is)
number_added tx other before false is = omega arith

number_adds : (tx other : TxNo) (before after : List (TxNo × ℕ)) → NumberCounted tx before after → number_count after other ≡ number_count before other + one_if (tx.0 == other.0)
number_adds tx other before after counted = ap count_or (counted other) ∙ number_added tx other before (tx.0 == other.0) refl

count_same : (test : Rec → Bool) (rs : List Rec) (r : Rec) → test r ≡ false → count_by test (rs ++ r ∷ []) ≡ count_by test rs
count_same test rs r none = let a = count_more test rs r in let b = ap one_if none in omega (arith, a, b)

-- ---- what stays

abbrev WasTold : List Rec → Rec → Type 0
WasTold rs r = (t a b : ℕ) → was_sent_between t a b (rs ++ r ∷ []) ≡ was_sent_between t a b rs

was_still : (rs : List Rec) (r : Rec) → ((t a b : ℕ) → is_send_between t a b r r.event ≡ true → was_sent_between t a b rs ≡ true) → WasTold rs r
was_still rs r again t a b = sent_more t a b rs r ∙ by (is_send_between t a b r r.event) (was_sent_between t a b rs) (again t a b)
  where
    by : (s w : Bool) → (s ≡ true → w ≡ true) → cond s true w ≡ w
    by true w f = sym (f refl)
    by false w f = refl

was_quiet : (rs : List Rec) (r : Rec) → ((t a b : ℕ) → is_send_between t a b r r.event ≡ false) → WasTold rs r
was_quiet rs r none t a b = sent_more t a b rs r ∙ ap (λ s. cond s true (was_sent_between t a b rs)) (none t a b)

plus_zero : (n : ℕ) → n ≡ n + 0
plus_zero n = omega arith

packets_still : (a b : ℕ) (rs : List Rec) (r : Rec) → WasTold rs r → packets a b (rs ++ r ∷ []) ≡ packets a b rs + one_if (is_packet a b (rs ++ r ∷ []) r r.event)
packets_still a b rs r was =
    packets_more a b rs r 0 false (λ t. ap one_if (was t a b) ∙ plus_zero (one_if (was_sent_between t a b rs)))
    ∙ ap (λ n. n + one_if (is_packet a b (rs ++ r ∷ []) r r.event)) (sym (plus_zero (packets a b rs)))

kept : (old new : Packets) (rs : List Rec) (r : Rec) → TellsPackets old rs
    → ((a b : ℕ) → pair_count new.packets.entries (pair_of a b) ≡ packets a b (rs ++ r ∷ []))
    → ((a b : ℕ) → pair_count new.faults.entries (pair_of a b) ≡ count_by (has_event (is_fault a b)) (rs ++ r ∷ []))
    → ((tx : TxNo) → number_count new.resends.entries tx ≡ count_by (has_event (is_resend tx.0)) (rs ++ r ∷ []))
    → new.sent.keys ≡ old.sent.keys → new.counts.entries ≡ old.counts.entries → new.slots.entries ≡ old.slots.entries
    → WasTold rs r → TellsPackets new (rs ++ r ∷ [])
kept old new rs r told ps fs rss sent counts slots was = record {
  packets_told = ps;
  faults_told = fs;
  resends_told = rss;
  sent_told = λ tx a b. ap (λ (m : List Sent). has_sent m (record { tx = tx; pair = pair_of a b })) sent ∙ told.sent_told tx a b ∙ sym (was tx.0 a b);
  slots_told = λ tx a b.
      ap (λ (m : List (Slot × Pair)). slot_count m tx (number_count new.counts.entries tx) (pair_of a b)) slots
      ∙ ap (λ (m : List (TxNo × ℕ)). slot_count old.slots.entries tx (number_count m tx) (pair_of a b)) counts
      ∙ told.slots_told tx a b
      ∙ sym (ap one_if (was tx.0 a b));
}

-- ---- a packet more between two kernels

again : (old new : Packets) (rs : List Rec) (r : Rec) (x y : ℕ) → TellsPackets old rs → SendsAgain (pair_of x y) old new → WasTold rs r
    → ((a b : ℕ) → is_packet a b (rs ++ r ∷ []) r r.event ≡ is_pair x y a b) → ((a b : ℕ) → is_fault a b r.event ≡ false) → ((t : ℕ) → is_resend t r.event ≡ false) → TellsPackets new (rs ++ r ∷ [])
again old new rs r x y told moves was packet fault resent =
    kept old new rs r told
    (λ a b.
    let s = adds_more x y a b 1 old.packets.entries new.packets.entries moves.0 in
    let t = told.packets_told a b in
    let u = packets_still a b rs r was in
    let v = ap one_if (packet a b) in
    let w = one_times (is_pair x y a b) in
    omega (arith, s, t, u, v, w))
    (λ a b. ap (λ (m : List (Pair × ℕ)). pair_count m (pair_of a b)) moves.1 ∙ told.faults_told a b ∙ sym (count_same (has_event (is_fault a b)) rs r (fault a b)))
    (λ tx. ap (λ (m : List (TxNo × ℕ)). number_count m tx) moves.2 ∙ told.resends_told tx ∙ sym (count_same (has_event (is_resend tx.0)) rs r (resent tx.0)))
    moves.3 moves.4 moves.5 was

-- ---- a fault more

faulted : (old new : Packets) (rs : List Rec) (r : Rec) (x y : ℕ) → TellsPackets old rs → FaultsOn (pair_of x y) old new → WasTold rs r
    → ((a b : ℕ) → is_packet a b (rs ++ r ∷ []) r r.event ≡ false) → ((a b : ℕ) → is_fault a b r.event ≡ is_pair x y a b) → ((t : ℕ) → is_resend t r.event ≡ false) → TellsPackets new (rs ++ r ∷ [])
faulted old new rs r x y told moves was packet fault resent =
    kept old new rs r told
    (λ a b.
    let s = ap (λ (m : List (Pair × ℕ)). pair_count m (pair_of a b)) moves.0 in
    let t = told.packets_told a b in
    let u = packets_still a b rs r was in
    let v = ap one_if (packet a b) in
    omega (arith, s, t, u, v))
    (λ a b.
    let s = adds_more x y a b 1 old.faults.entries new.faults.entries moves.1 in
    let t = told.faults_told a b in
    let u = count_more (has_event (is_fault a b)) rs r in
    let v = ap one_if (fault a b) in
    let w = one_times (is_pair x y a b) in
    omega (arith, s, t, u, v, w))
    (λ tx. ap (λ (m : List (TxNo × ℕ)). number_count m tx) moves.2 ∙ told.resends_told tx ∙ sym (count_same (has_event (is_resend tx.0)) rs r (resent tx.0)))
    moves.3 moves.4 moves.5 was

-- ---- a call goes out again

resent_on : (old new : Packets) (rs : List Rec) (r : Rec) (tx : TxNo) → TellsPackets old rs → ResendsOn tx old new → WasTold rs r
    → ((a b : ℕ) → is_packet a b (rs ++ r ∷ []) r r.event ≡ was_sent_between tx.0 a b rs) → ((a b : ℕ) → is_fault a b r.event ≡ false) → ((t : ℕ) → is_resend t r.event ≡ (tx.0 == t)) → TellsPackets new (rs ++ r ∷ [])
resent_on old new rs r tx told moves was packet fault resent =
    kept old new rs r told
    (λ a b.
    let s = moves.0 (pair_of a b) in
    let t = told.packets_told a b in
    let u = packets_still a b rs r was in
    let v = ap one_if (packet a b) in
    let w = told.slots_told tx a b in
    omega (arith, s, t, u, v, w))
    (λ a b. ap (λ (m : List (Pair × ℕ)). pair_count m (pair_of a b)) moves.1 ∙ told.faults_told a b ∙ sym (count_same (has_event (is_fault a b)) rs r (fault a b)))
    (λ other.
    let s = number_adds tx other old.resends.entries new.resends.entries moves.2 in
    let t = told.resends_told other in
    let u = count_more (has_event (is_resend other.0)) rs r in
    let v = ap one_if (resent other.0) in
    omega (arith, s, t, u, v))
    moves.3 moves.4 moves.5 was

-- ---- nothing of these

quiet : (old new : Packets) (rs : List Rec) (r : Rec) → TellsPackets old rs → new ≡ old → WasTold rs r
    → ((a b : ℕ) → is_packet a b (rs ++ r ∷ []) r r.event ≡ false) → ((a b : ℕ) → is_fault a b r.event ≡ false) → ((t : ℕ) → is_resend t r.event ≡ false) → TellsPackets new (rs ++ r ∷ [])
quiet old new rs r told same was packet fault resent = subst (λ (judge : Packets). TellsPackets judge (rs ++ r ∷ [])) (sym same)
    (kept old old rs r told
    (λ a b.
    let t = told.packets_told a b in
    let u = packets_still a b rs r was in
    let v = ap one_if (packet a b) in
    omega (arith, t, u, v))
    (λ a b. told.faults_told a b ∙ sym (count_same (has_event (is_fault a b)) rs r (fault a b)))
    (λ tx. told.resends_told tx ∙ sym (count_same (has_event (is_resend tx.0)) rs r (resent tx.0)))
    refl refl refl was)

-- ---- a call goes out between two kernels for the first time

sent_at : (sent : List Sent) (tx : TxNo) (p q : Pair) → same_pair p q ≡ true → has_sent sent (record { tx = tx; pair = p }) ≡ has_sent sent (record { tx = tx; pair = q })
sent_at sent tx p q is =
    let parts = equal_both p.low q.low p.high q.high is in
    ap (λ (n : ℕ). has_sent sent (record { tx = tx; pair = record { low = n; high = p.high } })) parts.0
    ∙ ap (λ (n : ℕ). has_sent sent (record { tx = tx; pair = record { low = q.low; high = n } })) parts.1

-- whether a call went between two kernels is whether it is kept so
was_by : (old : Packets) (rs : List Rec) (tx : TxNo) (x y t a b : ℕ) (v : Bool) → TellsPackets old rs → has_sent old.sent.keys (record { tx = tx; pair = pair_of x y }) ≡ v → (tx.0 == t && is_pair x y a b) ≡ true → was_sent_between t a b rs ≡ v
was_by old rs tx x y t a b v told is here =
    let parts = and_parts (tx.0 == t) (is_pair x y a b) here in
    sym (ap (λ n. was_sent_between n a b rs) (eqb-true tx.0 t parts.0))
    ∙ sym (told.sent_told tx a b)
    ∙ sym (sent_at old.sent.keys tx (pair_of x y) (pair_of a b) (pairs_same x y a b ∙ parts.1))
    ∙ is

first_more : (s w : Bool) → (s ≡ true → w ≡ false) → one_if (cond s true w) ≡ one_if w + one_if s
first_more true w f = let e = ap one_if (f refl) in omega (arith, e)
first_more false w f = omega arith

pub same_turned : (a b : ℕ) → (a == b) ≡ (b == a)
same_turned a b = both_true (a == b) (b == a) (λ e. eq-eqb b a (sym (eqb-true a b e))) (λ e. eq-eqb a b (sym (eqb-true b a e)))

turned : (a b : ℕ) (p : Bool) → (a == b && p) ≡ (p && b == a)
turned a b p = ap (λ c. c && p) (same_turned a b) ∙ swap (b == a) p
  where
    swap : (c d : Bool) → (c && d) ≡ (d && c)
    swap true true = refl
    swap true false = refl
    swap false true = refl
    swap false false = refl

-- the slots of a call with one more
slot_is : (tx other : TxNo) (p : Pair) (counts : List (TxNo × ℕ)) (slots after : List (Slot × Pair)) (n : ℕ) (b : Bool)
    → ((slot : Slot) → slot_kept after slot ≡ cond (same_slot (record { tx = tx; place = number_count counts tx }) slot) (Some p) (slot_kept slots slot))
    → same_slot (record { tx = tx; place = number_count counts tx }) (record { tx = other; place = n }) ≡ b
    → slot_kept after (record { tx = other; place = n }) ≡ cond b (Some p) (slot_kept slots (record { tx = other; place = n }))
slot_is tx other p counts slots after n b put is = put (record { tx = other; place = n }) ∙ ap (λ c. cond c (Some p) (slot_kept slots (record { tx = other; place = n }))) is

slots_still : (tx other : TxNo) (p q : Pair) (counts : List (TxNo × ℕ)) (slots after : List (Slot × Pair)) (n : ℕ)
    → ((slot : Slot) → slot_kept after slot ≡ cond (same_slot (record { tx = tx; place = number_count counts tx }) slot) (Some p) (slot_kept slots slot))
    → (tx.0 ≡ other.0 → n ≤ number_count counts tx) → slot_count after other n q ≡ slot_count slots other n q
slots_still tx other p q counts slots after zero put short = refl
slots_still tx other p q counts slots after (suc n) put short =
    let under = slots_still tx other p q counts slots after n put (λ same. let le = short same in omega (arith, le)) in
    let at = ap (λ o. in_slot o q) (slot_is tx other p counts slots after n false put (false_of (tx.0 == other.0 && number_count counts tx == n) no)) in
    ap (λ m. m + in_slot (slot_kept after (record { tx = other; place = n })) q) under ∙ ap (λ m. slot_count slots other n q + m) at
  where
    false_of : (c : Bool) → (c ≡ true → ⊥) → c ≡ false
    false_of true f = absurd (f refl)
    false_of false f = refl

    no : (tx.0 == other.0 && number_count counts tx == n) ≡ true → ⊥
    no e =
        let parts = equal_both tx.0 other.0 (number_count counts tx) n e in
        let le = short parts.0 in
        let is = parts.1 in
        omega (arith, le, is)

slots_put : (tx other : TxNo) (p q : Pair) (counts counts_after : List (TxNo × ℕ)) (slots after : List (Slot × Pair)) (b : Bool) → PutsSlot tx p counts slots counts_after after → (tx.0 == other.0) ≡ b → slot_count after other (number_count counts_after other) q ≡ slot_count slots other (number_count counts other) q + one_if (b && same_pair p q)
slots_put tx other p q counts counts_after slots after false puts is =
    let same : number_count counts_after other ≡ number_count counts other = (let e = number_adds tx other counts counts_after puts.0 in let f = ap one_if is in omega (arith, e, f)) in
    ap (λ n. slot_count after other n q) same
    ∙ slots_still tx other p q counts slots after (number_count counts other) puts.1 (λ e. absurd (cc (sym (eq-eqb tx.0 other.0 e) ∙ is)))
    ∙ plus_none (slot_count slots other (number_count counts other) q)
  where
    plus_none : (n : ℕ) → n ≡ n + one_if false
    plus_none n = omega arith
slots_put tx other p q counts counts_after slots after true puts is =
    let count : number_count counts tx ≡ number_count counts other = ap (λ (n : ℕ). number_count counts (record { 0 = n })) (eqb-true tx.0 other.0 is) in
    let more : number_count counts_after other ≡ suc (number_count counts other) = (let e = number_adds tx other counts counts_after puts.0 in let f = ap one_if is in omega (arith, e, f)) in
    let under = slots_still tx other p q counts slots after (number_count counts other) puts.1 (λ e. omega (arith, count)) in
    let at = ap (λ o. in_slot o q) (slot_is tx other p counts slots after (number_count counts other) true puts.1 (and_from (tx.0 == other.0) (number_count counts tx == number_count counts other) is (eq-eqb (number_count counts tx) (number_count counts other) count))) in
    ap (λ n. slot_count after other n q) more
    ∙ ap (λ m. m + in_slot (slot_kept after (record { tx = other; place = number_count counts other })) q) under
    ∙ ap (λ m. slot_count slots other (number_count counts other) q + m) at

first : (old new : Packets) (rs : List Rec) (r : Rec) (tx : TxNo) (x y : ℕ) → TellsPackets old rs → has_sent old.sent.keys (record { tx = tx; pair = pair_of x y }) ≡ false → SendsFirst tx (pair_of x y) old new
    → ((t a b : ℕ) → is_send_between t a b r r.event ≡ (tx.0 == t && is_pair x y a b))
    → ((a b : ℕ) → is_packet a b (rs ++ r ∷ []) r r.event ≡ is_pair x y a b) → ((a b : ℕ) → is_fault a b r.event ≡ false) → ((t : ℕ) → is_resend t r.event ≡ false) → TellsPackets new (rs ++ r ∷ [])
first old new rs r tx x y told is moves sends packet fault resent = record {
  packets_told = λ a b.
      let s = adds_more x y a b (number_count old.resends.entries tx + 1) old.packets.entries new.packets.entries moves.1 in
      let t = told.packets_told a b in
      let u = packets_more a b rs r tx.0 (is_pair x y a b) (λ n. more_at n a b ∙ ap (λ c. one_if (was_sent_between n a b rs) + one_if c) (turned tx.0 n (is_pair x y a b))) in
      let v = ap one_if (packet a b) in
      let w = told.resends_told tx in
      let z = times_more (is_pair x y a b) (number_count old.resends.entries tx) (count_by (has_event (is_resend tx.0)) rs) w in
      omega (arith, s, t, u, v, z);
  faults_told = λ a b. ap (λ (m : List (Pair × ℕ)). pair_count m (pair_of a b)) moves.2 ∙ told.faults_told a b ∙ sym (count_same (has_event (is_fault a b)) rs r (fault a b));
  resends_told = λ other. ap (λ (m : List (TxNo × ℕ)). number_count m other) moves.3 ∙ told.resends_told other ∙ sym (count_same (has_event (is_resend other.0)) rs r (resent other.0));
  sent_told = λ other a b.
      moves.4 (record { tx = other; pair = pair_of a b })
      ∙ ap (λ c. cond c true (has_sent old.sent.keys (record { tx = other; pair = pair_of a b }))) (same_turned_sent other a b)
      ∙ ap (λ c. cond (tx.0 == other.0 && is_pair x y a b) true c) (told.sent_told other a b)
      ∙ sym (was_after other.0 a b);
  slots_told = λ other a b.
      slots_put tx other (pair_of x y) (pair_of a b) old.counts.entries new.counts.entries old.slots.entries new.slots.entries (tx.0 == other.0) moves.0 refl
      ∙ ap (λ n. n + one_if (tx.0 == other.0 && same_pair (pair_of x y) (pair_of a b))) (told.slots_told other a b)
      ∙ ap (λ c. one_if (was_sent_between other.0 a b rs) + one_if (tx.0 == other.0 && c)) (pairs_same x y a b)
      ∙ sym (more_at other.0 a b);
}
  where
    was_after : (t a b : ℕ) → was_sent_between t a b (rs ++ r ∷ []) ≡ cond (tx.0 == t && is_pair x y a b) true (was_sent_between t a b rs)
    was_after t a b = sent_more t a b rs r ∙ ap (λ s. cond s true (was_sent_between t a b rs)) (sends t a b)

    more_at : (t a b : ℕ) → one_if (was_sent_between t a b (rs ++ r ∷ [])) ≡ one_if (was_sent_between t a b rs) + one_if (tx.0 == t && is_pair x y a b)
    more_at t a b = ap one_if (was_after t a b) ∙ first_more (tx.0 == t && is_pair x y a b) (was_sent_between t a b rs) (was_by old rs tx x y t a b false told is)

    times_more : (c : Bool) (n m : ℕ) → n ≡ m → times_if c (n + 1) ≡ times_if c m + one_if c
    times_more true n m e = omega (arith, e)
    times_more false n m e = omega arith

    same_turned_sent : (other : TxNo) (a b : ℕ) → same_sent (record { tx = other; pair = pair_of a b }) (record { tx = tx; pair = pair_of x y }) ≡ (tx.0 == other.0 && is_pair x y a b)
    same_turned_sent other a b =
        ap (λ c. c && same_pair (pair_of a b) (pair_of x y)) (same_turned other.0 tx.0)
        ∙ ap (λ c. tx.0 == other.0 && c) (pair_turned (pair_of a b) (pair_of x y) ∙ pairs_same x y a b)
      where
        pair_turned : (p q : Pair) → same_pair p q ≡ same_pair q p
        pair_turned p q = ap (λ c. c && p.high == q.high) (same_turned p.low q.low) ∙ ap (λ c. q.low == p.low && c) (same_turned p.high q.high)

-- ---- the rule

sent_on : (old new : Packets) (rs : List Rec) (r : Rec) (tx : TxNo) (x y : ℕ) (h : Bool) → has_sent old.sent.keys (record { tx = tx; pair = pair_of x y }) ≡ h → TellsPackets old rs → SendsOn tx (pair_of x y) old new
    → ((t a b : ℕ) → is_send_between t a b r r.event ≡ (tx.0 == t && is_pair x y a b))
    → ((a b : ℕ) → is_packet a b (rs ++ r ∷ []) r r.event ≡ is_pair x y a b) → ((a b : ℕ) → is_fault a b r.event ≡ false) → ((t : ℕ) → is_resend t r.event ≡ false) → TellsPackets new (rs ++ r ∷ [])
sent_on old new rs r tx x y true is told moves sends packet fault resent =
    again old new rs r x y told (moves.0 is) (was_still rs r (λ t a b e. was_by old rs tx x y t a b true told is (sym (sends t a b) ∙ e))) packet fault resent
sent_on old new rs r tx x y false is told moves sends packet fault resent =
    first old new rs r tx x y told is (moves.1 is) sends packet fault resent

no_last : (b : Bool) → (b && false) ≡ false
no_last true = refl
no_last false = refl

and_true : (b : Bool) → (b && true) ≡ b
and_true true = refl
and_true false = refl

moved_on : (old new : Packets) (rs : List Rec) (kernel : ℕ) (e : Event) → TellsPackets old rs → MovesOn kernel e old new → TellsPackets new (rs ++ record { kernel = kernel; event = e } ∷ [])
moved_on old new rs kernel (event.Send tx to about kind) told moves = sent_on old new rs (record { kernel = kernel; event = event.Send tx to about kind }) tx kernel to (has_sent old.sent.keys (record { tx = tx; pair = pair_of kernel to })) refl told moves (λ t a b. refl) (λ a b. refl) (λ a b. refl) (λ t. refl)
moved_on old new rs kernel (event.Expire tx true) told moves = quiet old new rs (record { kernel = kernel; event = event.Expire tx true }) told moves (was_quiet rs (record { kernel = kernel; event = event.Expire tx true }) (λ t a b. refl)) (λ a b. refl) (λ a b. refl) (λ t. no_last (tx.0 == t))
moved_on old new rs kernel (event.Expire tx false) told moves =
    resent_on old new rs (record { kernel = kernel; event = event.Expire tx false }) tx told moves (was_quiet rs (record { kernel = kernel; event = event.Expire tx false }) (λ t a b. refl)) (λ a b. was_quiet rs (record { kernel = kernel; event = event.Expire tx false }) (λ t x y. refl) tx.0 a b) (λ a b. refl) (λ t. and_true (tx.0 == t))
moved_on old new rs kernel (event.Deliver tx from true about) told moves = quiet old new rs (record { kernel = kernel; event = event.Deliver tx from true about }) told moves (was_quiet rs (record { kernel = kernel; event = event.Deliver tx from true about }) (λ t a b. refl)) (λ a b. refl) (λ a b. refl) (λ t. refl)
moved_on old new rs kernel (event.Deliver tx from false about) told moves = again old new rs (record { kernel = kernel; event = event.Deliver tx from false about }) kernel from told moves (was_quiet rs (record { kernel = kernel; event = event.Deliver tx from false about }) (λ t a b. refl)) (λ a b. refl) (λ a b. refl) (λ t. refl)
moved_on old new rs kernel (event.Fault x y met) told moves = faulted old new rs (record { kernel = kernel; event = event.Fault x y met }) x y told moves (was_quiet rs (record { kernel = kernel; event = event.Fault x y met }) (λ t a b. refl)) (λ a b. refl) (λ a b. refl) (λ t. refl)
moved_on old new rs kernel _ told moves = quiet old new rs _ told moves (was_quiet rs _ (λ t a b. refl)) (λ a b. refl) (λ a b. refl) (λ t. refl)

-- one record more
pub packets_told_on : (c : Description) (old new : Packets) (past : Past) (rec : Rec) → TellsPackets old past.records → MovesOn rec.kernel rec.event old new → TellsPackets new (past_with c rec past).records
packets_told_on c old new past rec told moves = moved_on old new past.records rec.kernel rec.event told moves

few : (f p : ℕ) → nat_le (f + 1) p ≡ nat_lt f p
few f p = both_true (nat_le (f + 1) p) (nat_lt f p) (λ e. let le = leb-true (f + 1) p e in lt-ltb f p (omega (arith, le))) (λ e. let lt = ltb-true f p e in le-leb (f + 1) p (omega (arith, lt)))

event_told : (judge : Packets) (past : Past) (e : Event) → TellsPackets judge past.records → faults_well past e ≡ may_fault judge e
event_told judge past (event.Fault a b met) told =
    few (count_by (has_event (is_fault a b)) past.records) (packets a b past.records)
    ∙ sym (ap (λ n. nat_lt n (packets a b past.records)) (told.faults_told a b))
    ∙ sym (ap (λ n. nat_lt (pair_count judge.faults.entries (pair_of a b)) n) (told.packets_told a b))
event_told judge past _ told = refl

-- a fault is judged by what is kept
pub fault_told : (c : Description) (judge : Packets) (past : Past) (rec : Rec) → TellsPackets judge past.records → faults_well past rec.event ≡ may_fault judge rec.event
fault_told c judge past rec told = event_told judge past rec.event told

-- before the first record
pub told_first : (judge : Packets) → judge.packets.entries ≡ [] → judge.faults.entries ≡ [] → judge.resends.entries ≡ [] → judge.sent.keys ≡ [] → judge.counts.entries ≡ [] → TellsPackets judge []
told_first judge ps fs rss sent counts = record {
  packets_told = λ a b. ap (λ (m : List (Pair × ℕ)). pair_count m (pair_of a b)) ps;
  faults_told = λ a b. ap (λ (m : List (Pair × ℕ)). pair_count m (pair_of a b)) fs;
  resends_told = λ tx. ap (λ (m : List (TxNo × ℕ)). number_count m tx) rss;
  sent_told = λ tx a b. ap (λ (m : List Sent). has_sent m (record { tx = tx; pair = pair_of a b })) sent;
  slots_told = λ tx a b. ap (λ (m : List (TxNo × ℕ)). slot_count judge.slots.entries tx (number_count m tx) (pair_of a b)) counts;
}

-- ---- one packet more for each slot

pub each_added : (tx : TxNo) (place : ℕ) (slots : List (Slot × Pair)) (start before after : List (Pair × ℕ)) (pair : Pair) → ((other : Pair) → pair_count before other ≡ pair_count start other + slot_count slots tx place other) → slot_kept slots (record { tx = tx; place = place }) ≡ Some pair → Adds pair 1 before after → (other : Pair) → pair_count after other ≡ pair_count start other + (slot_count slots tx place other + in_slot (slot_kept slots (record { tx = tx; place = place })) other)
each_added tx place slots start before after pair so_far is adds other =
    let s : pair_count after other ≡ pair_count before other + times_if (same_pair pair other) 1 = ap count_or (adds other) ∙ added pair other 1 before (same_pair pair other) refl in
    let t = one_times (same_pair pair other) in
    let u : in_slot (slot_kept slots (record { tx = tx; place = place })) other ≡ one_if (same_pair pair other) = ap (λ o. in_slot o other) is in
    let v = so_far other in
    omega (arith, s, t, u, v)

pub none_added : (tx : TxNo) (place : ℕ) (slots : List (Slot × Pair)) (start before : List (Pair × ℕ)) → ((other : Pair) → pair_count before other ≡ pair_count start other + slot_count slots tx place other) → slot_kept slots (record { tx = tx; place = place }) ≡ None → (other : Pair) → pair_count before other ≡ pair_count start other + (slot_count slots tx place other + in_slot (slot_kept slots (record { tx = tx; place = place })) other)
none_added tx place slots start before so_far is other =
    let u : in_slot (slot_kept slots (record { tx = tx; place = place })) other ≡ 0 = ap (λ o. in_slot o other) is in
    let v = so_far other in
    omega (arith, u, v)
