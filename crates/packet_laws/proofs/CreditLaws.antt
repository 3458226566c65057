-- Faults are paid for by packets: how many packets of two kernels are left that met none.
use Rattle.std.proofs.Common.{arith, ◌≡◌, ℕ, ◌+◌, ◌≤◌, ◌==◌, Bool, true, false, ◌&&◌, ◌||◌, not, cond, List, [], ◌∷◌, ◌++◌, map, None, count_by, refl, sym, ap, ap₂, subst, ◌∙◌, append-nil, append_assoc}
use Rattle.std.specs.List.{AllByRecursion, list_any}
use Rattle.std.proofs.lemmas.Bool.{and_parts, eqb-true}
use Rattle.std.proofs.lemmas.List.Sums.{sum_by-append}
use mathlib.Core.Bool.{or_comm}
use Rattle.sprite_ids.specs.declared.TxNo.{TxNo}
use Rattle.sprite_ids.proofs.OnceLaws.{or_false}
use Rattle.link_plan.specs.declared.Fate.{Fate}
use Rattle.link_plan.specs.declared.Fate.TheVariants.{Once, Lost, Twice, Late}
use Rattle.kernel_rpc.specs.Runs.{once_if}
use Rattle.kernel_rpc.specs.Servers.{AreApart}
use Rattle.kernel_rpc.proofs.PartLaws.{both_true, eq_same}
use Rattle.unix_calls.specs.declared.Event.{Event}
use Rattle.unix_calls.specs.declared.Event.TheVariants as events
use Rattle.unix_calls.specs.declared.SendKind.TheVariants.{Other}
use Rattle.unix_calls.specs.declared.Rec.{Rec}
use Rattle.call_journal.specs.Matching.{has_event, is_fault, is_pair}
use Rattle.call_journal.specs.WorthPackets.{is_packet, is_send_between, packets, was_sent_between}
use Rattle.cluster_wire_laws.specs.Links.{fault_told, faults_told, sent_told}
use Rattle.packet_laws.proofs.RecordLaws.{any_first, any_more}

pub count_on : {X : Type 0} (p : X → Bool) (xs ys : List X) → count_by p (xs ++ ys) ≡ count_by p xs + count_by p ys
count_on p xs ys = sum_by-append (λ x. cond {A = ℕ} (p x) 1 0) xs ys

pub count_one : {X : Type 0} (p : X → Bool) (x : X) → count_by p (x ∷ []) ≡ once_if (p x)
count_one p x = elim (p x) as (λ b. 0 + cond {A = ℕ} b 1 0 ≡ once_if b) [ true ↦ refl | false ↦ refl ]

once_more : (b c : Bool) → (b ≡ true → c ≡ true) → once_if b ≤ once_if c
once_more true c more = (let one = ap once_if (more refl) in omega arith)
once_more false c more = omega arith

pub count_more : {X : Type 0} (p q : X → Bool) (xs : List X) → ((x : X) → p x ≡ true → q x ≡ true) → count_by p xs ≤ count_by q xs
count_more p q [] more = omega arith
count_more p q (x ∷ xs) more =
    (let first = count_on p (x ∷ []) xs in
    let next = count_on q (x ∷ []) xs in
    let one = count_one p x in
    let two = count_one q x in
    let least = once_more (p x) (q x) (more x) in
    let rest = count_more p q xs more in omega arith)

-- a packet stays one
packet_on : (a b : ℕ) (records more : List Rec) (r : Rec) (e : Event) → is_packet a b records r e ≡ true → is_packet a b (records ++ more) r e ≡ true
packet_on a b records more r (events.Expire tx last) h =
    let parts = and_parts (not last) (was_sent_between tx.0 a b records) h in
    both_true (not last) (was_sent_between tx.0 a b (records ++ more)) parts.0 (any_first (λ (r : Rec). is_send_between tx.0 a b r r.event) records more parts.1)
packet_on a b records more r e h = h

abbrev pub faults_in : ℕ → ℕ → List Rec → ℕ
faults_in a b records = count_by (has_event (is_fault a b)) records

packets_on : (a b : ℕ) (records more : List Rec) → packets a b records ≤ packets a b (records ++ more)
packets_on a b records more =
    (let p : Rec → Bool = λ r. is_packet a b records r r.event in
    let q : Rec → Bool = λ r. is_packet a b (records ++ more) r r.event in
    let least = count_more p q records (λ r. packet_on a b records more r r.event) in
    let all = count_on q records more in omega arith)

packets_one : (a b : ℕ) (records : List Rec) (r : Rec) → packets a b records + once_if (is_packet a b records r r.event) ≤ packets a b (records ++ r ∷ [])
packets_one a b records r =
    (let p : Rec → Bool = λ r. is_packet a b records r r.event in
    let q : Rec → Bool = λ s. is_packet a b (records ++ r ∷ []) s s.event in
    let least = count_more p q records (λ s. packet_on a b records (r ∷ []) s s.event) in
    let all = count_on q records (r ∷ []) in
    let one = count_one q r in
    let here = once_more (is_packet a b records r r.event) (is_packet a b (records ++ r ∷ []) r r.event) (packet_on a b records (r ∷ []) r r.event) in omega arith)

faults_one : (a b : ℕ) (records : List Rec) (r : Rec) → faults_in a b (records ++ r ∷ []) ≡ faults_in a b records + once_if (is_fault a b r.event)
faults_one a b records r = (let all = count_on (has_event (is_fault a b)) records (r ∷ []) in let one = count_one (has_event (is_fault a b)) r in omega arith)

-- so many packets are left
abbrev pub Has : ℕ → ℕ → List Rec → ℕ → Type 0
Has a b records n = faults_in a b records + n ≤ packets a b records

-- each fault among records that come behind others has a packet before it
abbrev pub Well : ℕ → ℕ → List Rec → List Rec → Type 0
Well a b records [] = Unit {0}
Well a b records (r ∷ told) = (is_fault a b r.event ≡ true → Has a b records 1) × Well a b (records ++ r ∷ []) told

pub well_on : (a b : ℕ) (first next records : List Rec) → Well a b records first → Well a b (records ++ first) next → Well a b records (first ++ next)
well_on a b [] next records h k = subst (λ (xs : List Rec). Well a b xs next) (append-nil records) k
well_on a b (r ∷ first) next records h k = (h.0, well_on a b first next (records ++ r ∷ []) h.1 (subst (λ (xs : List Rec). Well a b xs next) (sym (append_assoc records (r ∷ []) first)) k))

-- a fault at a place of such records
pub few_at : (a b : ℕ) (before rest records : List Rec) (r : Rec) → Well a b records (before ++ r ∷ rest) → is_fault a b r.event ≡ true → Has a b (records ++ before) 1
few_at a b [] rest records r h is = subst (λ (xs : List Rec). Has a b xs 1) (sym (append-nil records)) (h.0 is)
few_at a b (x ∷ before) rest records r h is = subst (λ (xs : List Rec). Has a b xs 1) (append_assoc records (x ∷ []) before) (few_at a b before rest (records ++ x ∷ []) r h.1 is)

-- records come, each fault with a packet before it, and so many packets are left behind them
pub record Goes (a b : ℕ) (records told : List Rec) (left : ℕ) : Type 0 where
  pub well : Well a b records told
  pub has : Has a b (records ++ told) left

pub goes_none : (a b : ℕ) (records : List Rec) (n : ℕ) → Has a b records n → Goes a b records [] n
goes_none a b records n h = record { well = tt; has = subst (λ (xs : List Rec). Has a b xs n) (sym (append-nil records)) h }

pub goes_join : (a b : ℕ) (records first next : List Rec) (m n : ℕ) → Goes a b records first m → (Has a b (records ++ first) m → Goes a b (records ++ first) next n) → Goes a b records (first ++ next) n
goes_join a b records first next m n goes then_goes =
    let behind = then_goes goes.has in
    record { well = well_on a b first next records goes.well behind.well; has = subst (λ (xs : List Rec). Has a b xs n) (append_assoc records first next) behind.has }

pub goes_less : (a b : ℕ) (records told : List Rec) (m n : ℕ) → m ≤ n → Goes a b records told n → Goes a b records told m
goes_less a b records told m n least goes = (let has = goes.has in record { well = goes.well; has = omega arith })

-- a record of no fault
pub goes_record : (a b : ℕ) (records : List Rec) (r : Rec) (n : ℕ) → is_fault a b r.event ≡ false → Has a b records n → Goes a b records (r ∷ []) (n + once_if (is_packet a b records r r.event))
goes_record a b records r n none h =
    (let one = faults_one a b records r in
    let more = packets_one a b records r in
    let zero = ap once_if none in
    record { well = (λ is. absurd (cc), tt); has = omega arith })

-- a record of a fault
goes_fault : (a b : ℕ) (records : List Rec) (r : Rec) (m n : ℕ) → once_if (is_fault a b r.event) + m ≤ n → Has a b records n → Goes a b records (r ∷ []) m
goes_fault a b records r m n paid h =
    (let one = faults_one a b records r in
    let more = packets_on a b records (r ∷ []) in
    record { well = (λ is. (let this = ap once_if is in omega arith), tt); has = omega arith })

pub fault_goes : (a b : ℕ) (records : List Rec) (m n kernel from to : ℕ) (fate : Fate) → once_if (is_pair from to a b) + m ≤ n → Has a b records n → Goes a b records (fault_told kernel from to fate) m
fault_goes a b records m n kernel from to Once paid h = goes_less a b records [] m n (omega arith) (goes_none a b records n h)
fault_goes a b records m n kernel from to Lost paid h = goes_fault a b records (record { kernel = kernel; event = events.Fault from to Lost }) m n paid h
fault_goes a b records m n kernel from to Twice paid h = goes_fault a b records (record { kernel = kernel; event = events.Fault from to Twice }) m n paid h
fault_goes a b records m n kernel from to Late paid h = goes_fault a b records (record { kernel = kernel; event = events.Fault from to Late }) m n paid h

-- how many of these kernels are the other one of the two
abbrev pub pairs_to : ℕ → ℕ → ℕ → List ℕ → ℕ
pairs_to a b from [] = 0
pairs_to a b from (kernel ∷ kernels) = once_if (is_pair from kernel a b) + pairs_to a b from kernels

pub faults_go : (a b from : ℕ) (sent : List (ℕ × Fate)) (records : List Rec) (m n : ℕ) → pairs_to a b from (map (λ (packet : ℕ × Fate). packet.0) sent) + m ≤ n → Has a b records n → Goes a b records (faults_told from sent) m
faults_go a b from [] records m n paid h = goes_less a b records [] m n (omega arith) (goes_none a b records n h)
faults_go a b from (packet ∷ sent) records m n paid h =
    let rest = pairs_to a b from (map (λ (packet : ℕ × Fate). packet.0) sent) + m in
    let first = fault_told from from packet.0 packet.1 in
    goes_join a b records first (faults_told from sent) rest m (fault_goes a b records rest n from from packet.0 packet.1 (omega arith) h) (λ has. faults_go a b from sent (records ++ first) m rest (omega arith) has)

pub sent_go : (a b from : ℕ) (key : TxNo) (sent : List (ℕ × Fate)) (records : List Rec) (n : ℕ) → Has a b records n → Goes a b records (sent_told from key sent) n
sent_go a b from key [] records n h = goes_none a b records n h
sent_go a b from key (packet ∷ sent) records n h =
    let send : Rec = record { kernel = from; event = events.Send key packet.0 None Other } in
    let first = fault_told from from packet.0 packet.1 in
    let more = n + once_if (is_pair from packet.0 a b) in
    goes_join a b records (send ∷ []) (first ++ sent_told from key sent) more n (goes_record a b records send n refl h)
    (λ has. goes_join a b (records ++ send ∷ []) first (sent_told from key sent) n n (fault_goes a b (records ++ send ∷ []) n more from from packet.0 packet.1 (omega arith) has)
    (λ has. sent_go a b from key sent ((records ++ send ∷ []) ++ first) n has))

-- two kernels are the pair, in one order or the other
and_turned : (a b : Bool) → (a && b) ≡ (b && a)
and_turned true true = refl
and_turned true false = refl
and_turned false true = refl
and_turned false false = refl

pub pair_turned : (x y a b : ℕ) → is_pair y x a b ≡ is_pair x y a b
pair_turned x y a b = ap₂ (λ (u v : Bool). u || v) (and_turned (y == a) (x == b)) (and_turned (y == b) (x == a)) ∙ or_comm ((x == b) && (y == a)) ((x == a) && (y == b))

data Ends (x y a b : ℕ) : Type 0 where
  Same : x ≡ a → y ≡ b → Ends x y a b
  Turned : x ≡ b → y ≡ a → Ends x y a b

ends_by : (x y a b : ℕ) (same : Bool) → ((x == a) && (y == b)) ≡ same → (same || ((x == b) && (y == a))) ≡ true → Ends x y a b
ends_by x y a b true is h = (let parts = and_parts (x == a) (y == b) is in Same (eqb-true x a parts.0) (eqb-true y b parts.1))
ends_by x y a b false is h = (let parts = and_parts (x == b) (y == a) h in Turned (eqb-true x b parts.0) (eqb-true y a parts.1))

ends_of : (x y a b : ℕ) → is_pair x y a b ≡ true → Ends x y a b
ends_of x y a b h = ends_by x y a b ((x == a) && (y == b)) refl h

same_end : (x y z a b : ℕ) → Ends x y a b → Ends x z a b → z ≡ y
same_end x y z a b (Same e f) (Same g h) = h ∙ sym f
same_end x y z a b (Same e f) (Turned g h) = h ∙ sym e ∙ g ∙ sym f
same_end x y z a b (Turned e f) (Same g h) = h ∙ sym e ∙ g ∙ sym f
same_end x y z a b (Turned e f) (Turned g h) = h ∙ sym f

no_pair : (x y z a b : ℕ) → Ends x y a b → (z == y) ≡ false → (pair : Bool) → is_pair x z a b ≡ pair → is_pair x z a b ≡ false
no_pair x y z a b ends apart true is = absurd (let same : (z == y) ≡ true = ap (λ (n : ℕ). n == y) (same_end x y z a b ends (ends_of x z a b is)) ∙ eq_same y in cc)
no_pair x y z a b ends apart false is = is

pairs_none : (a b from kernel : ℕ) (kernels : List ℕ) → Ends from kernel a b → list_any (λ other. other == kernel) kernels ≡ false → pairs_to a b from kernels ≡ 0
pairs_none a b from kernel [] ends none = refl
pairs_none a b from kernel (other ∷ kernels) ends none =
    (let parts = or_false (other == kernel) (list_any (λ other. other == kernel) kernels) none in
    let zero = ap once_if (no_pair from kernel other a b ends parts.0 (is_pair from other a b) refl) in
    let rest = pairs_none a b from kernel kernels ends parts.1 in omega arith)

turned_by : (tx a b : ℕ) (r : Rec) (e : Event) → is_send_between tx b a r e ≡ true → is_send_between tx a b r e ≡ true
turned_by tx a b r (events.Send key to about kind) h =
    let parts = and_parts (key.0 == tx) (is_pair r.kernel to b a) h in
    both_true (key.0 == tx) (is_pair r.kernel to a b) parts.0 (or_comm ((r.kernel == a) && (to == b)) ((r.kernel == b) && (to == a)) ∙ parts.1)
turned_by tx a b r e h = h

sent_ends : (tx from kernel a b : ℕ) (records : List Rec) → Ends from kernel a b → was_sent_between tx from kernel records ≡ true → was_sent_between tx a b records ≡ true
sent_ends tx from kernel a b records (Same e f) was = subst (λ (n : ℕ). was_sent_between tx n b records ≡ true) e (subst (λ (n : ℕ). was_sent_between tx from n records ≡ true) f was)
sent_ends tx from kernel a b records (Turned e f) was = any_more (λ (r : Rec). is_send_between tx b a r r.event) (λ (r : Rec). is_send_between tx a b r r.event) records (λ r. turned_by tx a b r r.event) (subst (λ (n : ℕ). was_sent_between tx n a records ≡ true) e (subst (λ (n : ℕ). was_sent_between tx from n records ≡ true) f was))

-- of different receivers one at most is the other one of the two, and then the request was sent between them
pub pairs_few : (a b tx from : ℕ) (records : List Rec) (kernels : List ℕ) → AreApart kernels → AllByRecursion (λ (kernel : ℕ). was_sent_between tx from kernel records ≡ true) kernels → pairs_to a b from kernels ≤ once_if (was_sent_between tx a b records)
pairs_few a b tx from records [] apart sent = omega arith
pairs_few a b tx from records (kernel ∷ kernels) apart sent = by (is_pair from kernel a b) refl (pairs_few a b tx from records kernels apart.1 sent.1)
  where
    by : (pair : Bool) → is_pair from kernel a b ≡ pair → pairs_to a b from kernels ≤ once_if (was_sent_between tx a b records) → once_if (is_pair from kernel a b) + pairs_to a b from kernels ≤ once_if (was_sent_between tx a b records)
    by true is rest =
        (let ends = ends_of from kernel a b is in
        let none = pairs_none a b from kernel kernels ends apart.0 in
        let was = ap once_if (sent_ends tx from kernel a b records ends sent.0) in
        let one = ap once_if is in omega arith)
    by false is rest = (let zero = ap once_if is in omega arith)
