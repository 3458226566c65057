-- What a trace tells of packets is the same without all else, and without what sendings are for.
use Rattle.std.proofs.Common.{◌≡◌, ℕ, ◌==◌, Bool, true, false, ◌&&◌, ◌||◌, cond, List, [], ◌∷◌, ◌++◌, map, refl, sym, ap, ap₂, ◌∙◌, append-nil, filter, arith, not, count_by}
use Rattle.std.specs.List.{list_any}
use Rattle.kernel_rpc.proofs.PartLaws.{and_false}
use Rattle.unix_calls.specs.declared.Event.{Event}
use Rattle.unix_calls.specs.declared.Event.TheVariants as events
use Rattle.unix_calls.specs.declared.Rec.{Rec}
use Rattle.call_journal.specs.Matching.{has_event, is_at, is_expire, is_fault, is_lost, is_resend, is_send, is_send_to}
use Rattle.call_journal.specs.Past.{since_from, since_last}
use Rattle.call_journal.specs.WorthPackets.{behind_first_send, behind_last_sending, deliveries, is_delivered_at, is_loss_of, is_packet, is_send_between, packets, sendings, was_sent_between}
use Rattle.cluster_wire_laws.specs.Links.{bare, bare_event, is_of_link, of_link}
use Rattle.cluster_wire_laws.proofs.LinkLaws.{link_on}
use Rattle.cluster_wire_laws.proofs.SendingLaws.{bare_same, other_none}
use Rattle.kernel_rpc.specs.Runs.{once_if}
use Rattle.packet_laws.proofs.CreditLaws.{count_on, count_one, faults_in}

-- a test of records that passes only ones of packets and timers, and the same test of these without what sendings are for
record LooksAtLink (test bare_test : Rec → Bool) : Type 0 where
  same : (r : Rec) → bare_test (bare r) ≡ test r
  other : (r : Rec) → is_of_link r.event ≡ false → test r ≡ false

any_by : (test bare_test : Rec → Bool) (looks : LooksAtLink test bare_test) (r : Rec) (trace : List Rec) (b : Bool) → is_of_link r.event ≡ b → list_any bare_test (of_link trace) ≡ list_any test trace → list_any bare_test (map bare (cond {A = List Rec} b (r ∷ filter (λ (r : Rec). is_of_link r.event) trace) (filter (λ (r : Rec). is_of_link r.event) trace))) ≡ list_any test (r ∷ trace)
any_by test bare_test looks r trace true is rest = ap₂ (λ (a b : Bool). a || b) (looks.same r) rest
any_by test bare_test looks r trace false is rest = rest ∙ sym (ap (λ (b : Bool). b || list_any test trace) (looks.other r is))

any_link : (test bare_test : Rec → Bool) → LooksAtLink test bare_test → (trace : List Rec) → list_any bare_test (of_link trace) ≡ list_any test trace
any_link test bare_test looks [] = refl
any_link test bare_test looks (r ∷ trace) = any_by test bare_test looks r trace (is_of_link r.event) refl (any_link test bare_test looks trace)

-- behind the first send
first_by : (kernel tx : ℕ) (looks : LooksAtLink (is_at kernel (is_send tx)) (is_at kernel (is_send tx))) (r : Rec) (trace : List Rec) (b : Bool) → is_of_link r.event ≡ b → behind_first_send kernel tx (of_link trace) ≡ of_link (behind_first_send kernel tx trace) → behind_first_send kernel tx (map bare (cond {A = List Rec} b (r ∷ filter (λ (r : Rec). is_of_link r.event) trace) (filter (λ (r : Rec). is_of_link r.event) trace))) ≡ of_link (behind_first_send kernel tx (r ∷ trace))
first_by kernel tx looks r trace true is rest =
    ap (λ b. cond {A = List Rec} b (of_link trace) (behind_first_send kernel tx (of_link trace))) (looks.same r)
    ∙ elim (is_at kernel (is_send tx) r) as (λ b. cond {A = List Rec} b (of_link trace) (behind_first_send kernel tx (of_link trace)) ≡ of_link (cond {A = List Rec} b trace (behind_first_send kernel tx trace))) [ true ↦ refl | false ↦ rest ]
first_by kernel tx looks r trace false is rest = rest ∙ sym (ap (λ b. of_link (cond {A = List Rec} b trace (behind_first_send kernel tx trace))) (looks.other r is))

first_link : (kernel tx : ℕ) → LooksAtLink (is_at kernel (is_send tx)) (is_at kernel (is_send tx)) → (trace : List Rec) → behind_first_send kernel tx (of_link trace) ≡ of_link (behind_first_send kernel tx trace)
first_link kernel tx looks [] = refl
first_link kernel tx looks (r ∷ trace) = first_by kernel tx looks r trace (is_of_link r.event) refl (first_link kernel tx looks trace)

-- behind the last one that a test passes
one_more : (kept : List Rec) (r : Rec) (b : Bool) → is_of_link r.event ≡ b → of_link (kept ++ r ∷ []) ≡ of_link kept ++ map bare (cond {A = List Rec} b (r ∷ []) [])
one_more kept r b is = link_on kept (r ∷ []) ∙ ap (λ b. of_link kept ++ map bare (cond {A = List Rec} b (r ∷ []) [])) is

since_by : (test : Rec → Bool) (looks : LooksAtLink test test) (r : Rec) (trace : List Rec) (b : Bool) → is_of_link r.event ≡ b → ((kept : List Rec) → since_from test (of_link kept) (of_link trace) ≡ of_link (since_from test kept trace)) → (kept : List Rec) → since_from test (of_link kept) (map bare (cond {A = List Rec} b (r ∷ filter (λ (r : Rec). is_of_link r.event) trace) (filter (λ (r : Rec). is_of_link r.event) trace))) ≡ of_link (since_from test kept (r ∷ trace))
since_by test looks r trace true is rest kept =
    ap (λ b. cond {A = List Rec} b (since_from test [] (of_link trace)) (since_from test (of_link kept ++ bare r ∷ []) (of_link trace))) (looks.same r)
    ∙ elim (test r) as (λ b. cond {A = List Rec} b (since_from test [] (of_link trace)) (since_from test (of_link kept ++ bare r ∷ []) (of_link trace)) ≡ of_link (cond {A = List Rec} b (since_from test [] trace) (since_from test (kept ++ r ∷ []) trace))) [ true ↦ rest [] | false ↦ ap (λ (xs : List Rec). since_from test xs (of_link trace)) (sym (one_more kept r true is)) ∙ rest (kept ++ r ∷ []) ]
since_by test looks r trace false is rest kept =
    ap (λ (xs : List Rec). since_from test xs (of_link trace)) (sym (one_more kept r false is ∙ append-nil (of_link kept)))
    ∙ rest (kept ++ r ∷ [])
    ∙ sym (ap (λ b. of_link (cond {A = List Rec} b (since_from test [] trace) (since_from test (kept ++ r ∷ []) trace))) (looks.other r is))

since_link : (test : Rec → Bool) → LooksAtLink test test → (trace kept : List Rec) → since_from test (of_link kept) (of_link trace) ≡ of_link (since_from test kept trace)
since_link test looks [] kept = refl
since_link test looks (r ∷ trace) kept = since_by test looks r trace (is_of_link r.event) refl (since_link test looks trace) kept

-- the tests
send_bare : (tx : ℕ) (e : Event) → is_send tx (bare_event e) ≡ is_send tx e
send_bare tx (events.Send key to about kind) = refl
send_bare tx e = refl

send_other : (tx : ℕ) (e : Event) → is_of_link e ≡ false → is_send tx e ≡ false
send_other tx (events.Send key to about kind) is = absurd (cc)
send_other tx e is = refl

resend_bare : (tx : ℕ) (e : Event) → is_resend tx (bare_event e) ≡ is_resend tx e
resend_bare tx (events.Send key to about kind) = refl
resend_bare tx e = refl

resend_other : (tx : ℕ) (e : Event) → is_of_link e ≡ false → is_resend tx e ≡ false
resend_other tx (events.Expire key last) is = absurd (cc)
resend_other tx e is = refl

between_bare : (tx a b : ℕ) (r : Rec) (e : Event) → is_send_between tx a b (bare r) (bare_event e) ≡ is_send_between tx a b r e
between_bare tx a b r (events.Send key to about kind) = refl
between_bare tx a b r e = refl

between_other : (tx a b : ℕ) (r : Rec) (e : Event) → is_of_link e ≡ false → is_send_between tx a b r e ≡ false
between_other tx a b r (events.Send key to about kind) is = absurd (cc)
between_other tx a b r e is = refl

-- the same numbers were sent between the same kernels
pub sent_link : (tx a b : ℕ) (trace : List Rec) → was_sent_between tx a b (of_link trace) ≡ was_sent_between tx a b trace
sent_link tx a b trace = any_link (λ (r : Rec). is_send_between tx a b r r.event) (λ (r : Rec). is_send_between tx a b r r.event) record { same = λ r. between_bare tx a b r r.event; other = λ r. between_other tx a b r r.event } trace

loss_bare : (tx : ℕ) (trace : List Rec) (e : Event) → is_loss_of tx (of_link trace) (bare_event e) ≡ is_loss_of tx trace e
loss_bare tx trace (events.Fault a b met) = ap (λ (sent : Bool). is_lost met && sent) (sent_link tx a b trace)
loss_bare tx trace e = refl

loss_other : (tx : ℕ) (trace : List Rec) (e : Event) → is_of_link e ≡ false → is_loss_of tx trace e ≡ false
loss_other tx trace (events.Fault a b met) is = absurd (cc)
loss_other tx trace e is = refl

-- a loss since the last sending is one in what is told of packets alone
pub loss_link : (kernel tx : ℕ) (trace : List Rec) → list_any (has_event (is_loss_of tx (of_link trace))) (behind_last_sending kernel tx (of_link trace)) ≡ list_any (has_event (is_loss_of tx trace)) (behind_last_sending kernel tx trace)
loss_link kernel tx trace =
    let again : Rec → Bool = is_at kernel (is_resend tx) in
    ap (λ (xs : List Rec). list_any (has_event (is_loss_of tx (of_link trace))) (since_last again xs)) (first_link kernel tx record { same = λ r. ap (λ (b : Bool). (r.kernel == kernel) && b) (send_bare tx r.event); other = λ r is. ap (λ (b : Bool). (r.kernel == kernel) && b) (send_other tx r.event is) ∙ and_false (r.kernel == kernel) } trace)
    ∙ ap (list_any (has_event (is_loss_of tx (of_link trace)))) (since_link again record { same = λ r. ap (λ (b : Bool). (r.kernel == kernel) && b) (resend_bare tx r.event); other = λ r is. ap (λ (b : Bool). (r.kernel == kernel) && b) (resend_other tx r.event is) ∙ and_false (r.kernel == kernel) } (behind_first_send kernel tx trace) [])
    ∙ any_link (has_event (is_loss_of tx trace)) (has_event (is_loss_of tx (of_link trace))) record { same = λ r. loss_bare tx trace r.event; other = λ r. loss_other tx trace r.event } (behind_last_sending kernel tx trace)

-- counts
count_by_link : (test bare_test : Rec → Bool) (looks : LooksAtLink test bare_test) (r : Rec) (trace : List Rec) (b : Bool) → is_of_link r.event ≡ b → count_by bare_test (of_link trace) ≡ count_by test trace → count_by bare_test (map bare (cond {A = List Rec} b (r ∷ filter (λ (r : Rec). is_of_link r.event) trace) (filter (λ (r : Rec). is_of_link r.event) trace))) ≡ count_by test (r ∷ trace)
count_by_link test bare_test looks r trace true is rest =
    (let first = count_on bare_test (bare r ∷ []) (of_link trace) in
    let one = count_one bare_test (bare r) in
    let next = count_on test (r ∷ []) trace in
    let two = count_one test r in
    let same = ap once_if (looks.same r) in omega arith)
count_by_link test bare_test looks r trace false is rest =
    (let next = count_on test (r ∷ []) trace in
    let two = count_one test r in
    let none = ap once_if (looks.other r is) in omega arith)

count_link : (test bare_test : Rec → Bool) → LooksAtLink test bare_test → (trace : List Rec) → count_by bare_test (of_link trace) ≡ count_by test trace
count_link test bare_test looks [] = refl
count_link test bare_test looks (r ∷ trace) = count_by_link test bare_test looks r trace (is_of_link r.event) refl (count_link test bare_test looks trace)

fault_bare : (a b : ℕ) (e : Event) → is_fault a b (bare_event e) ≡ is_fault a b e
fault_bare a b (events.Send key to about kind) = refl
fault_bare a b e = refl

fault_other : (a b : ℕ) (e : Event) → is_of_link e ≡ false → is_fault a b e ≡ false
fault_other a b (events.Fault from to met) is = absurd (cc)
fault_other a b e is = refl

packet_bare : (a b : ℕ) (trace : List Rec) (r : Rec) (e : Event) → is_packet a b (of_link trace) (bare r) (bare_event e) ≡ is_packet a b trace r e
packet_bare a b trace r (events.Send key to about kind) = refl
packet_bare a b trace r (events.Expire tx last) = ap (λ (sent : Bool). not last && sent) (sent_link tx.0 a b trace)
packet_bare a b trace r e = refl

packet_other : (a b : ℕ) (trace : List Rec) (r : Rec) (e : Event) → is_of_link e ≡ false → is_packet a b trace r e ≡ false
packet_other a b trace r (events.Send key to about kind) is = absurd (cc)
packet_other a b trace r (events.Expire tx last) is = absurd (cc)
packet_other a b trace r (events.Deliver tx from reply about) is = absurd (cc)
packet_other a b trace r e is = refl

-- as many faults, and as many packets, are told of in what is told of packets alone
pub faults_link : (a b : ℕ) (trace : List Rec) → faults_in a b (of_link trace) ≡ faults_in a b trace
faults_link a b trace = count_link (has_event (is_fault a b)) (has_event (is_fault a b)) record { same = λ r. fault_bare a b r.event; other = λ r. fault_other a b r.event } trace

pub packets_link : (a b : ℕ) (trace : List Rec) → packets a b (of_link trace) ≡ packets a b trace
packets_link a b trace = count_link (λ (r : Rec). is_packet a b trace r r.event) (λ (r : Rec). is_packet a b (of_link trace) r r.event) record { same = λ r. packet_bare a b trace r r.event; other = λ r. packet_other a b trace r r.event } trace

pub expire_bare : (tx : ℕ) (e : Event) → is_expire tx (bare_event e) ≡ is_expire tx e
expire_bare tx (events.Send key to about kind) = refl
expire_bare tx e = refl

pub expire_other : (tx : ℕ) (e : Event) → is_of_link e ≡ false → is_expire tx e ≡ false
expire_other tx (events.Expire key last) is = absurd (cc)
expire_other tx e is = refl

-- and as many timers
pub expiries_link : (kernel tx : ℕ) (trace : List Rec) → count_by (is_at kernel (is_expire tx)) (of_link trace) ≡ count_by (is_at kernel (is_expire tx)) trace
expiries_link kernel tx trace = count_link (is_at kernel (is_expire tx)) (is_at kernel (is_expire tx)) record { same = λ r. ap (λ (b : Bool). (r.kernel == kernel) && b) (expire_bare tx r.event); other = λ r is. ap (λ (b : Bool). (r.kernel == kernel) && b) (expire_other tx r.event is) ∙ and_false (r.kernel == kernel) } trace

deliver_bare : (tx receiver : ℕ) (r : Rec) (e : Event) → is_delivered_at tx receiver (bare r) (bare_event e) ≡ is_delivered_at tx receiver r e
deliver_bare tx receiver r (events.Send key to about kind) = refl
deliver_bare tx receiver r (events.Deliver key from reply about) = refl
deliver_bare tx receiver r e = refl

deliver_other : (tx receiver : ℕ) (r : Rec) (e : Event) → is_of_link e ≡ false → is_delivered_at tx receiver r e ≡ false
deliver_other tx receiver r (events.Deliver key from reply about) is = absurd (cc)
deliver_other tx receiver r e is = refl

-- and as many packets of a call that come and that are sent
pub deliveries_link : (tx receiver : ℕ) (trace : List Rec) → deliveries tx receiver (of_link trace) ≡ deliveries tx receiver trace
deliveries_link tx receiver trace = count_link (λ (r : Rec). is_delivered_at tx receiver r r.event) (λ (r : Rec). is_delivered_at tx receiver r r.event) record { same = λ r. deliver_bare tx receiver r r.event; other = λ r. deliver_other tx receiver r r.event } trace

pub sendings_link : (tx receiver : ℕ) (trace : List Rec) → sendings tx receiver (of_link trace) ≡ sendings tx receiver trace
sendings_link tx receiver trace =
    (let sent = count_link (has_event (is_send_to tx receiver)) (has_event (is_send_to tx receiver)) record { same = λ r. bare_same tx receiver r.event; other = λ r. other_none tx receiver r.event } trace in
    let over = count_link (has_event (is_expire tx)) (has_event (is_expire tx)) record { same = λ r. expire_bare tx r.event; other = λ r. expire_other tx r.event } trace in omega arith)
