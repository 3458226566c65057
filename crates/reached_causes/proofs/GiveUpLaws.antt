-- Behind each record that a call was sent to the one that is to answer it: as many packets between the two were lost as tries are over, and no
-- answer came.
use Rattle.std.proofs.Common.{arith, ◌≡◌, ℕ, ◌+◌, ◌<◌, ◌≤◌, ◌==◌, nat_le, Bool, true, false, ◌&&◌, ◌||◌, not, cond, List, [], ◌∷◌, ◌++◌, map, Option, Some, None, is_some, count_by, refl, sym, ap, ap₂, subst, ◌∙◌, append-nil, append_assoc}
use Rattle.std.specs.List.{AllByRecursion, filter, list_any}
use Rattle.std.proofs.lemmas.Bool.{eqb-true, or_right, and_right, le-leb, eq-eqb, both_ways, and_left}
use Rattle.std.proofs.lemmas.Bool.Decides.{nat_tests}
use Rattle.sprite_ids.specs.declared.TxNo.{TxNo}
use Rattle.sprite_ids.specs.declared.CopyNo.{CopyNo}
use Rattle.sprite_ids.specs.declared.Tries.{Tries}
use Rattle.sprite_ids.proofs.ListLaws.{each_push, each_weaken, some_is}
use Rattle.sprite_ids.proofs.OnceLaws.{or_false}
use Rattle.link_plan.specs.declared.Fate.{Fate}
use Rattle.link_plan.specs.declared.Fate.TheVariants.{Once, Lost, Twice, Late}
use Rattle.kernel_rpc.specs.declared.Arrival.{Arrival}
use Rattle.kernel_rpc.specs.declared.Arrival.TheVariants.{FirstRequest, FirstReply, AskedAgain, Past}
use Rattle.kernel_rpc.specs.declared.Part.TheVariants.{Holding, Silent}
use Rattle.kernel_rpc.specs.declared.Call.{Call}
use Rattle.kernel_rpc.specs.declared.PacketCopy.{PacketCopy}
use Rattle.kernel_rpc.specs.Histories.{EachLost, IsLostWhereDue, is_asked_again, is_loss as loses, lost_since, loses_again, loses_to, reached}
use Rattle.kernel_rpc.specs.Machine.{Machine, answered, arrival, arrival_at, arrival_back, arrival_of, call_of, copy_of, delivered_as, further, gave_up as gave_call_up, idle, is_call, is_copy, is_last, is_last_of, landed, lost_more, new_call, owner_of, part_of, replied, resent, tried}
use Rattle.kernel_rpc.specs.Runs.{Act, Begin, Deliver, Answer, Silence, Expire, AsksAgain, Counts, IsRun, MayAct, after, delivered_by, expired_by, is_first_reply, once_if}
use Rattle.kernel_rpc.specs.Servers.{AreApart}
use Rattle.kernel_rpc.specs.Sound.{IsNumbered, IsSound, is_reply_of}
use Rattle.kernel_rpc.proofs.CauseLaws.{Holds, after_holds}
use Rattle.kernel_rpc.proofs.LossLaws.{lost_before_expiry}
use Rattle.kernel_rpc.proofs.NumberLaws.{each_changed, each_dropped}
use Rattle.kernel_rpc.proofs.PartLaws.{any_map, both_true, eq_same}
use Rattle.kernel_rpc.proofs.RunLaws.{unfinished_replied}
use Rattle.kernel_rpc.proofs.SoundLaws.{each_within, found_is, found_sound, other_copy}
use Rattle.kernel_rpc.proofs.TryLaws.{IsTried, delivered_begun, each_kept, seven}
use Rattle.kernel_rpc.proofs.CopyLaws.{found_none}
use Rattle.unix_calls.specs.declared.Event.{Event}
use Rattle.unix_calls.specs.declared.Event.TheVariants as events
use Rattle.unix_calls.specs.declared.Rec.{Rec}
use Rattle.unix_calls.specs.declared.SendKind.TheVariants.{Other}
use Rattle.call_journal.specs.Matching.{has_event, is_at, is_expire, is_loss, is_pair, is_reply_from, is_send_to}
use Rattle.call_journal.specs.Unreachable.{gave_up, gave_up_from, lost_eight}
use Rattle.cluster_wire.specs.Goings.{next_of}
use Rattle.cluster_wire.specs.Noted.{is_fault}
use Rattle.cluster_wire.specs.Ran.{told_of}
use Rattle.cluster_choices.specs.Acts.{delivery}
use Rattle.cluster_wire_laws.specs.Links.{again_told, all_told_by, answer_told, bare, bare_event, came_told, fault_told, faults_told, fired_told, is_of_link, of_link, sent_told}
use Rattle.cluster_wire_laws.proofs.LinkLaws.{link_on}
use Rattle.cluster_wire_laws.proofs.SixLaws.{expired_begun}
use Rattle.cluster_wire_laws.proofs.SendingLaws.{bare_same, other_none}
use Rattle.packet_laws.proofs.CreditLaws.{count_on, count_one}
use Rattle.packet_laws.proofs.RecordLaws.{any_behind, any_first}
use Rattle.packet_laws.proofs.BareLaws.{expire_bare, expire_other}
use Rattle.packet_laws.proofs.EighthLaws.{new_tried, one_more}
use Rattle.packet_laws.proofs.FaultLaws.{pair_same}
use Rattle.packet_laws.proofs.LossLaws.{none_on, sent_there, each_same, new_number}
use Rattle.reached_causes.specs.GivenUp.{GivenUpBehindSends}

-- ---- what is counted

-- how often the timer of that number is told to have fired at a kernel, how many packets between two kernels are told to be lost, and whether
-- an answer is told to have come from that kernel
abbrev expiries : ℕ → ℕ → List Rec → ℕ
expiries kernel tx records = count_by (is_at kernel (is_expire tx)) records

abbrev losses : ℕ → ℕ → List Rec → ℕ
losses a b records = count_by (has_event (is_loss a b)) records

abbrev came_back : ℕ → ℕ → ℕ → List Rec → Bool
came_back kernel tx owner records = list_any (is_at kernel (is_reply_from tx owner)) records

-- behind each record that passes a test, what follows is so
abbrev Behind : (Rec → Bool) → (List Rec → Type 0) → List Rec → Type 0
Behind test P [] = Unit {0}
Behind test P (r ∷ rs) = (test r ≡ true → P rs) × Behind test P rs

behind_none : (test : Rec → Bool) (P : List Rec → Type 0) (rs : List Rec) → list_any test rs ≡ false → Behind test P rs
behind_none test P [] h = tt
behind_none test P (r ∷ rs) h = let parts = or_false (test r) (list_any test rs) h in (λ e. absurd (both_ways (test r) parts.0 e), behind_none test P rs parts.1)

behind_more : (test : Rec → Bool) (P R : List Rec → Type 0) (rs told : List Rec) → ((between : List Rec) → P between → R (between ++ told)) → list_any test told ≡ false → Behind test P rs → Behind test R (rs ++ told)
behind_more test P R [] told more none h = behind_none test R told none
behind_more test P R (r ∷ rs) told more none h = (λ e. more rs (h.0 e), behind_more test P R rs told more none h.1)

behind_join : (test : Rec → Bool) (R : List Rec → Type 0) (rs told : List Rec) → list_any test rs ≡ false → Behind test R told → Behind test R (rs ++ told)
behind_join test R [] told none h = h
behind_join test R (r ∷ rs) told none h = let parts = or_false (test r) (list_any test rs) none in (λ e. absurd (both_ways (test r) parts.0 e), behind_join test R rs told parts.1 h)

behind_at : (test : Rec → Bool) (P : List Rec → Type 0) (before : List Rec) (r : Rec) (between : List Rec) → test r ≡ true → Behind test P (before ++ r ∷ between) → P between
behind_at test P [] r between e h = h.0 e
behind_at test P (x ∷ before) r between e h = behind_at test P before r between e h.1

count_none : (p : Rec → Bool) (rs : List Rec) → list_any p rs ≡ false → count_by p rs ≡ 0
count_none p [] h = refl
count_none p (r ∷ rs) h =
    (let parts = or_false (p r) (list_any p rs) h in
    let sum = count_on p (r ∷ []) rs in
    let one = count_one p r in
    let zero = ap once_if parts.0 in
    let rest = count_none p rs parts.1 in omega arith)

or_none : (a b : Bool) → a ≡ false → b ≡ false → (a || b) ≡ false
or_none a b h k = ap (λ (x : Bool). x || b) h ∙ k

either : (x y : Bool) → once_if (x || y) ≤ once_if x + once_if y
either true y = omega arith
either false y = omega arith

-- ---- faults

abbrev AreFaults : List Rec → Type 0
AreFaults told = AllByRecursion (λ (r : Rec). is_fault r.event ≡ true) told

-- a test of events that no fault passes
abbrev Ignores : (Event → Bool) → Type 0
Ignores p = (e : Event) → is_fault e ≡ true → p e ≡ false

no_send : (tx to : ℕ) → Ignores (is_send_to tx to)
no_send tx to (events.Send t s about kind) h = absurd (cc)
no_send tx to e h = refl

no_expire : (tx : ℕ) → Ignores (is_expire tx)
no_expire tx (events.Expire t last) h = absurd (cc)
no_expire tx e h = refl

no_reply : (tx owner : ℕ) → Ignores (is_reply_from tx owner)
no_reply tx owner (events.Deliver t f reply about) h = absurd (cc)
no_reply tx owner e h = refl

faults_none : (p : Event → Bool) (kernel : ℕ) (told : List Rec) → Ignores p → AreFaults told → list_any (is_at kernel p) told ≡ false
faults_none p kernel [] ignores h = refl
faults_none p kernel (r ∷ told) ignores h = or_none (is_at kernel p r) (list_any (is_at kernel p) told) (and_right (r.kernel == kernel) (p r.event) (ignores r.event h.0)) (faults_none p kernel told ignores h.1)

each_both : (xs ys : List Rec) → AreFaults xs → AreFaults ys → AreFaults (xs ++ ys)
each_both [] ys h k = k
each_both (x ∷ xs) ys h k = (h.0, each_both xs ys h.1 k)

fault_is : (at from to : ℕ) (fate : Fate) → AreFaults (fault_told at from to fate)
fault_is at from to Once = tt
fault_is at from to Lost = (refl, tt)
fault_is at from to Twice = (refl, tt)
fault_is at from to Late = (refl, tt)

faults_are : (at : ℕ) (sent : List (ℕ × Fate)) → AreFaults (faults_told at sent)
faults_are at [] = tt
faults_are at (packet ∷ sent) = each_both (fault_told at at packet.0 packet.1) (faults_told at sent) (fault_is at at packet.0 packet.1) (faults_are at sent)

again_are : (a : Arrival) (at : ℕ) (given : Fate) (o : Option Call) → AreFaults (again_told a at given o)
again_are AskedAgain at given None = tt
again_are AskedAgain at given (Some call) = fault_is at call.owner call.from given
again_are FirstRequest at given o = tt
again_are FirstReply at given o = tt
again_are Past at given o = tt

answer_are : (given : Fate) (o : Option Call) → AreFaults (answer_told given o)
answer_are given None = tt
answer_are given (Some call) = fault_is call.owner call.owner call.from given

rest_are : (b : Bool) (at : ℕ) (sent : List (ℕ × Fate)) → AreFaults (cond {A = List Rec} b [] (faults_told at sent))
rest_are true at sent = tt
rest_are false at sent = faults_are at sent

-- losses

pair_back : (a b : ℕ) → is_pair b a a b ≡ true
pair_back a b = or_right ((b == a) && (a == b)) ((b == b) && (a == a)) (both_true (b == b) (a == a) (eq_same b) (eq_same a))

fault_lost : (at from to a b : ℕ) (fate : Fate) → is_pair from to a b ≡ true → once_if (loses fate) ≤ losses a b (fault_told at from to fate)
fault_lost at from to a b Once h = omega arith
fault_lost at from to a b Lost h =
    (let one = count_one (has_event (is_loss a b)) (record { kernel = at; event = events.Fault from to Lost }) in
    let is = ap once_if (both_true (is_pair from to a b) true h refl) in omega arith)
fault_lost at from to a b Twice h = omega arith
fault_lost at from to a b Late h = omega arith

one_lost : (b : Bool) (from owner : ℕ) (packet : ℕ × Fate) → (packet.0 == owner) ≡ b → once_if (b && loses packet.1) ≤ losses from owner (fault_told from from packet.0 packet.1)
one_lost true from owner packet e = fault_lost from from packet.0 from owner packet.1 (subst (λ (n : ℕ). is_pair from packet.0 from n ≡ true) (eqb-true packet.0 owner e) (pair_same from packet.0))
one_lost false from owner packet e = omega arith

faults_lost : (sent : List (ℕ × Fate)) (from owner : ℕ) → once_if (loses_to owner sent) ≤ losses from owner (faults_told from sent)
faults_lost [] from owner = omega arith
faults_lost (packet ∷ sent) from owner =
    (let sum = count_on (has_event (is_loss from owner)) (fault_told from from packet.0 packet.1) (faults_told from sent) in
    let here = one_lost (packet.0 == owner) from owner packet refl in
    let rest = faults_lost sent from owner in
    let both = either ((packet.0 == owner) && loses packet.1) (loses_to owner sent) in omega arith)

-- ---- records that a call was sent

sent_none : (p : Event → Bool) (kernel at : ℕ) (key : TxNo) (sent : List (ℕ × Fate)) → Ignores p → ((to : ℕ) → p (events.Send key to None Other) ≡ false) → list_any (is_at kernel p) (sent_told at key sent) ≡ false
sent_none p kernel at key [] ignores none = refl
sent_none p kernel at key (packet ∷ sent) ignores none =
    or_none (is_at kernel p (record { kernel = at; event = events.Send key packet.0 None Other })) _ (and_right (at == kernel) (p (events.Send key packet.0 None Other)) (none packet.0))
    (none_on (is_at kernel p) (fault_told at at packet.0 packet.1) (sent_told at key sent) (faults_none p kernel (fault_told at at packet.0 packet.1) ignores (fault_is at at packet.0 packet.1)) (sent_none p kernel at key sent ignores none))

sent_lost : (sent : List (ℕ × Fate)) (from owner : ℕ) (key : TxNo) → once_if (loses_to owner sent) ≤ losses from owner (sent_told from key sent)
sent_lost [] from owner key = omega arith
sent_lost (packet ∷ sent) from owner key =
    (let first : Rec = record { kernel = from; event = events.Send key packet.0 None Other } in
    let whole = count_on (has_event (is_loss from owner)) (first ∷ []) (fault_told from from packet.0 packet.1 ++ sent_told from key sent) in
    let sum = count_on (has_event (is_loss from owner)) (fault_told from from packet.0 packet.1) (sent_told from key sent) in
    let here = one_lost (packet.0 == owner) from owner packet refl in
    let rest = sent_lost sent from owner key in
    let both = either ((packet.0 == owner) && loses packet.1) (loses_to owner sent) in omega arith)

-- ---- what stands behind such a record of a call

record Fair (lost : Bool) (tx from owner : ℕ) (tries : Tries) (over : ℕ) (between : List Rec) : Type 0 where
  enough : expiries from tx between + once_if lost ≤ losses from owner between
  counted : IsTried (expiries from tx between) tries over
  unanswered : came_back from tx owner between ≡ false

fair_on : (lost later : Bool) (tx from owner : ℕ) (tries : Tries) (over : ℕ) (between told : List Rec) → expiries from tx told ≡ 0 → came_back from tx owner told ≡ false → once_if later ≤ once_if lost + losses from owner told → Fair lost tx from owner tries over between → Fair later tx from owner tries over (between ++ told)
fair_on lost later tx from owner tries over between told zero none more h = record {
  enough = (let e = count_on (is_at from (is_expire tx)) between told in let l = count_on (has_event (is_loss from owner)) between told in let old = h.enough in omega arith);
  counted = subst (λ (n : ℕ). IsTried n tries over) same h.counted;
  unanswered = none_on (is_at from (is_reply_from tx owner)) between told h.unanswered none;
}
  where
    same : expiries from tx between ≡ expiries from tx (between ++ told)
    same = (let e = count_on (is_at from (is_expire tx)) between told in omega arith)

abbrev FairCall : (ℕ → Bool) → List Rec → Call → Type 0
FairCall lost records call = Behind (is_at call.from (is_send_to call.tx.0 call.owner)) (Fair (lost call.tx.0) call.tx.0 call.from call.owner call.tries call.lost) records × (list_any (is_at call.from (is_send_to call.tx.0 call.owner)) records ≡ true)

-- of each unfinished call; and none is sent that isn't begun
record AllFair (lost : ℕ → Bool) (records : List Rec) (machine : Machine) : Type 0 where
  calls : AllByRecursion (FairCall lost records) machine.unfinished
  none : (kernel tx to : ℕ) → machine.begun < tx → list_any (is_at kernel (is_send_to tx to)) records ≡ false

call_on : (lost later : ℕ → Bool) (records told : List Rec) (call : Call) → list_any (is_at call.from (is_send_to call.tx.0 call.owner)) told ≡ false → expiries call.from call.tx.0 told ≡ 0 → came_back call.from call.tx.0 call.owner told ≡ false
    → once_if (later call.tx.0) ≤ once_if (lost call.tx.0) + losses call.from call.owner told → FairCall lost records call → FairCall later (records ++ told) call
call_on lost later records told call unsent zero none more h = (
  behind_more (is_at call.from (is_send_to call.tx.0 call.owner)) (Fair (lost call.tx.0) call.tx.0 call.from call.owner call.tries call.lost) (Fair (later call.tx.0) call.tx.0 call.from call.owner call.tries call.lost) records told
      (λ between k. fair_on (lost call.tx.0) (later call.tx.0) call.tx.0 call.from call.owner call.tries call.lost between told zero none more k) unsent h.0,
  any_first (is_at call.from (is_send_to call.tx.0 call.owner)) records told h.1,
)

-- where faults alone are told
faults_on : (lost later : ℕ → Bool) (records told : List Rec) (call : Call) → AreFaults told → once_if (later call.tx.0) ≤ once_if (lost call.tx.0) + losses call.from call.owner told → FairCall lost records call → FairCall later (records ++ told) call
faults_on lost later records told call faults more h =
    call_on lost later records told call (faults_none (is_send_to call.tx.0 call.owner) call.from told (no_send call.tx.0 call.owner) faults) (count_none (is_at call.from (is_expire call.tx.0)) told (faults_none (is_expire call.tx.0) call.from told (no_expire call.tx.0) faults))
    (faults_none (is_reply_from call.tx.0 call.owner) call.from told (no_reply call.tx.0 call.owner) faults) more h

-- ---- a call that begins

-- no packet to the owner stands behind the one
no_owner : (sent : List (ℕ × Fate)) (from owner : ℕ) (key : TxNo) → list_any (λ (n : ℕ). n == owner) (map (λ (packet : ℕ × Fate). packet.0) sent) ≡ false → list_any (is_at from (is_send_to key.0 owner)) (sent_told from key sent) ≡ false
no_owner [] from owner key h = refl
no_owner (packet ∷ sent) from owner key h =
    let parts = or_false (packet.0 == owner) (list_any (λ (n : ℕ). n == owner) (map (λ (packet : ℕ × Fate). packet.0) sent)) h in
    or_none ((from == from) && ((key.0 == key.0) && (packet.0 == owner))) _ (and_right (from == from) ((key.0 == key.0) && (packet.0 == owner)) (and_right (key.0 == key.0) (packet.0 == owner) parts.0))
    (none_on (is_at from (is_send_to key.0 owner)) (fault_told from from packet.0 packet.1) (sent_told from key sent) (faults_none (is_send_to key.0 owner) from (fault_told from from packet.0 packet.1) (no_send key.0 owner) (fault_is from from packet.0 packet.1)) (no_owner sent from owner key parts.1))

later_loss : (x y : Bool) → x ≡ false → once_if (x || y) ≤ once_if y
later_loss true y h = absurd (cc)
later_loss false y h = omega arith

begun_behind : (sent : List (ℕ × Fate)) (from owner : ℕ) (key : TxNo) (tries : Tries) (lost : Bool) → AreApart (map (λ (packet : ℕ × Fate). packet.0) sent) → once_if lost ≤ once_if (loses_to owner sent) → Behind (is_at from (is_send_to key.0 owner)) (Fair lost key.0 from owner tries 0) (sent_told from key sent)
begun_behind [] from owner key tries lost apart some = tt
begun_behind (packet ∷ sent) from owner key tries lost apart some = (
  λ e. record {
    enough = (let l = count_on (has_event (is_loss from owner)) faults rest in let here = one_lost (packet.0 == owner) from owner packet refl in let later = sent_lost sent from owner key in let both = either ((packet.0 == owner) && loses packet.1) (loses_to owner sent) in let zero = none in omega arith);
    counted = new_tried (expiries from key.0 (faults ++ rest)) tries none;
    unanswered = none_on (is_at from (is_reply_from key.0 owner)) faults rest (faults_none (is_reply_from key.0 owner) from faults (no_reply key.0 owner) (fault_is from from packet.0 packet.1)) (sent_none (is_reply_from key.0 owner) from from key sent (no_reply key.0 owner) (λ to. refl));
  },
  behind_join (is_at from (is_send_to key.0 owner)) (Fair lost key.0 from owner tries 0) faults rest (faults_none (is_send_to key.0 owner) from faults (no_send key.0 owner) (fault_is from from packet.0 packet.1)) (by_owner (packet.0 == owner) refl (λ h. begun_behind sent from owner key tries lost apart.1 h)),
)
  where
    faults : List Rec
    faults = fault_told from from packet.0 packet.1

    rest : List Rec
    rest = sent_told from key sent

    none : expiries from key.0 (faults ++ rest) ≡ 0
    none = count_none (is_at from (is_expire key.0)) (faults ++ rest)
        (none_on (is_at from (is_expire key.0)) faults rest (faults_none (is_expire key.0) from faults (no_expire key.0) (fault_is from from packet.0 packet.1)) (sent_none (is_expire key.0) from from key sent (no_expire key.0) (λ to. refl)))

    by_owner : (b : Bool) → (packet.0 == owner) ≡ b → (once_if lost ≤ once_if (loses_to owner sent) → Behind (is_at from (is_send_to key.0 owner)) (Fair lost key.0 from owner tries 0) rest) → Behind (is_at from (is_send_to key.0 owner)) (Fair lost key.0 from owner tries 0) rest
    by_owner true e again = behind_none (is_at from (is_send_to key.0 owner)) (Fair lost key.0 from owner tries 0) rest (no_owner sent from owner key (subst (λ (n : ℕ). list_any (λ (k : ℕ). k == n) (map (λ (packet : ℕ × Fate). packet.0) sent) ≡ false) (eqb-true packet.0 owner e) apart.0))
    by_owner false e again = again (let less = later_loss ((packet.0 == owner) && loses packet.1) (loses_to owner sent) (and_left (packet.0 == owner) (loses packet.1) e) in omega arith)

flag_rest : (b x y : Bool) → b ≡ false → once_if (cond b x y) ≤ once_if y
flag_rest true x y h = absurd (cc)
flag_rest false x y h = omega arith

flag_first : (b x y : Bool) → b ≡ true → once_if (cond b x y) ≤ once_if x
flag_first true x y h = omega arith
flag_first false x y h = absurd (cc)

-- an old call, where another one begins
old_call : (lost : ℕ → Bool) (records : List Rec) (begun from owner : ℕ) (sent : List (ℕ × Fate)) (call : Call) → call.tx.0 ≤ begun → FairCall lost records call → FairCall (λ tx. cond (begun + 1 == tx) (loses_to owner sent) (lost tx)) (records ++ sent_told from (record { 0 = begun + 1 }) sent) call
old_call lost records begun from owner sent call within h =
    let key : TxNo = record { 0 = begun + 1 } in
    let other : (begun + 1 == call.tx.0) ≡ false = new_number begun call.tx.0 within in
    call_on lost (λ tx. cond (begun + 1 == tx) (loses_to owner sent) (lost tx)) records (sent_told from key sent) call
    (sent_none (is_send_to call.tx.0 call.owner) call.from from key sent (no_send call.tx.0 call.owner) (λ to. and_left (begun + 1 == call.tx.0) (to == call.owner) other))
    (count_none (is_at call.from (is_expire call.tx.0)) (sent_told from key sent) (sent_none (is_expire call.tx.0) call.from from key sent (no_expire call.tx.0) (λ to. refl)))
    (sent_none (is_reply_from call.tx.0 call.owner) call.from from key sent (no_reply call.tx.0 call.owner) (λ to. refl))
    (let less = flag_rest (begun + 1 == call.tx.0) (loses_to owner sent) (lost call.tx.0) other in omega arith) h

each_known : (P F G : Call → Type 0) (calls : List Call) → ((call : Call) → P call → F call → G call) → AllByRecursion P calls → AllByRecursion F calls → AllByRecursion G calls
each_known P F G [] both h k = tt
each_known P F G (call ∷ calls) both h k = (both call h.0 k.0, each_known P F G calls both h.1 k.1)

begin_fair : (lost : ℕ → Bool) (records : List Rec) (machine : Machine) (call : Call) (sent : List (ℕ × Fate)) → IsNumbered 0 machine.unfinished machine.begun → call.tx ≡ next_of machine → call.lost ≡ 0 → list_any (λ (packet : ℕ × Fate). packet.0 == call.owner) sent ≡ true → AreApart (map (λ (packet : ℕ × Fate). packet.0) sent) → AllFair lost records machine
    → AllByRecursion (FairCall (λ tx. cond (machine.begun + 1 == tx) (loses_to call.owner sent) (lost tx)) (records ++ sent_told call.from (next_of machine) sent)) (machine.unfinished ++ call ∷ [])
begin_fair lost records machine call sent numbered number fresh there apart h =
    let later : ℕ → Bool = λ tx. cond (machine.begun + 1 == tx) (loses_to call.owner sent) (lost tx) in
    let told = sent_told call.from (next_of machine) sent in
    each_push (FairCall later (records ++ told)) machine.unfinished call
    (each_known (λ (other : Call). other.tx.0 ≤ machine.begun) (FairCall lost records) (FairCall later (records ++ told)) machine.unfinished (λ other within k. old_call lost records machine.begun call.from call.owner sent other within k) (each_within 0 machine.begun machine.unfinished numbered) h.calls) (
      subst (λ (tx : TxNo). Behind (is_at call.from (is_send_to tx.0 call.owner)) (Fair (later tx.0) tx.0 call.from call.owner call.tries call.lost) (records ++ told)) (sym number)
          (subst (λ (n : ℕ). Behind (is_at call.from (is_send_to (machine.begun + 1) call.owner)) (Fair (later (machine.begun + 1)) (machine.begun + 1) call.from call.owner call.tries n) (records ++ told)) (sym fresh)
          (behind_join (is_at call.from (is_send_to (machine.begun + 1) call.owner)) (Fair (later (machine.begun + 1)) (machine.begun + 1) call.from call.owner call.tries 0) records told (h.none call.from (machine.begun + 1) call.owner (omega arith))
          (begun_behind sent call.from call.owner (next_of machine) call.tries (later (machine.begun + 1)) apart (flag_first (machine.begun + 1 == machine.begun + 1) (loses_to call.owner sent) (lost (machine.begun + 1)) (eq_same (machine.begun + 1)))))),
      subst (λ (tx : TxNo). list_any (is_at call.from (is_send_to tx.0 call.owner)) (records ++ told) ≡ true) (sym number) (any_behind (is_at call.from (is_send_to (machine.begun + 1) call.owner)) records told (sent_there call.from call.owner (next_of machine) sent there)),
    )

-- ---- a copy that comes

-- a copy of the reply comes only to a call that it ends

no_answer : (o : Option (List ℕ)) (a : Arrival) (reply : Bool) → arrival_back o ≡ a → is_first_reply a ≡ false → (is_some o ≡ false → reply ≡ false) → reply ≡ false
no_answer None a reply e f none = none refl
no_answer (Some bytes) a reply e f none = absurd (both_ways (is_first_reply a) f (ap is_first_reply (sym e)))

request_by : (b : Bool) (copy : PacketCopy) (call : Call) (a : Arrival) → copy.reply ≡ b → arrival_of copy (Some call) ≡ a → is_first_reply a ≡ false → (is_some call.reply ≡ false → copy.reply ≡ false) → copy.reply ≡ false
request_by false copy call a is e f none = is
request_by true copy call a is e f none =
    no_answer call.reply a copy.reply (sym (ap (λ (b : Bool). cond b (arrival_back call.reply) (arrival_at (part_of copy.to call.receivers) call.reply)) is) ∙ e) f none

is_request : (machine : Machine) (counts : Counts) (number : CopyNo) (copy : PacketCopy) (call : Call) (a : Arrival) → Holds machine counts → copy_of machine number ≡ Some copy → call_of machine copy.tx ≡ Some call → arrival machine copy ≡ a → is_first_reply a ≡ false → copy.reply ≡ false
is_request machine counts number copy call a sound found known e f =
    let here = found_sound (IsSound _ counts.faults machine.copies) (is_call copy.tx) call machine.unfinished known sound.calls in
    let same : (copy.tx.0 == call.tx.0) ≡ true = subst (λ (n : ℕ). (copy.tx.0 == n) ≡ true) (sym (eqb-true call.tx.0 copy.tx.0 (found_is copy.tx call machine.unfinished known))) (eq_same copy.tx.0) in
    request_by copy.reply copy call a refl (sym (ap (arrival_of copy) known) ∙ e) f
    (λ none. sym (ap (λ (b : Bool). b && copy.reply) same) ∙ found_none (is_reply_of call) (is_copy number) copy machine.copies found (here.replies none))

-- what a copy brings, and what is lost with it
more_lost : (l b c : Bool) → b ≡ false → once_if (l || (b && c)) ≤ once_if l
more_lost true b c h = omega arith
more_lost false true c h = absurd (cc)
more_lost false false c h = omega arith

back_lost : (a : Arrival) (at : ℕ) (given : Fate) (call : Call) → once_if (is_asked_again a && loses given) ≤ losses call.from call.owner (again_told a at given (Some call))
back_lost AskedAgain at given call = fault_lost at call.owner call.from call.from call.owner given (pair_back call.from call.owner)
back_lost FirstRequest at given call = omega arith
back_lost FirstReply at given call = omega arith
back_lost Past at given call = omega arith

second_less : (b c : Bool) → once_if (b && c) ≤ once_if c
second_less true c = omega arith
second_less false c = omega arith

three_off : (a b c : Bool) → a ≡ false → ((a && b) && c) ≡ false
three_off true b c h = absurd (cc)
three_off false b c h = refl

and_middle : (a b c : Bool) → b ≡ false → ((a && b) && c) ≡ false
and_middle true b c h = and_left b c h
and_middle false b c h = refl

module _ (lost : ℕ → Bool) (records : List Rec) (machine : Machine) (counts : Counts) (number : CopyNo) (copy : PacketCopy) (given : Fate) (sound : Holds machine counts) (found : copy_of machine number ≡ Some copy) where
  abbrev told : Arrival → Option Call → List Rec
  told a o = record { kernel = copy.to; event = delivery copy } ∷ again_told a copy.to given o

  abbrev flag : Arrival → ℕ → Bool
  flag a n = lost n || ((copy.tx.0 == n) && (is_asked_again a && loses given))

  -- a call, where the copy isn't its reply
  copy_on : (a : Arrival) (o : Option Call) (call : Call) → is_reply_from call.tx.0 call.owner (delivery copy) ≡ false → once_if (flag a call.tx.0) ≤ once_if (lost call.tx.0) + losses call.from call.owner (told a o) → FairCall lost records call → FairCall (flag a) (records ++ told a o) call
  copy_on a o call none more h =
      let faults = again_are a copy.to given o in
      let rest = again_told a copy.to given o in
      call_on lost (flag a) records (told a o) call
      (or_none ((copy.to == call.from) && false) (list_any (is_at call.from (is_send_to call.tx.0 call.owner)) rest) (and_right (copy.to == call.from) false refl) (faults_none (is_send_to call.tx.0 call.owner) call.from rest (no_send call.tx.0 call.owner) faults))
      (count_none (is_at call.from (is_expire call.tx.0)) (told a o) (or_none ((copy.to == call.from) && false) (list_any (is_at call.from (is_expire call.tx.0)) rest) (and_right (copy.to == call.from) false refl) (faults_none (is_expire call.tx.0) call.from rest (no_expire call.tx.0) faults)))
      (or_none (is_at call.from (is_reply_from call.tx.0 call.owner) (record { kernel = copy.to; event = delivery copy })) (list_any (is_at call.from (is_reply_from call.tx.0 call.owner)) rest) (and_right (copy.to == call.from) (is_reply_from call.tx.0 call.owner (delivery copy)) none) (faults_none (is_reply_from call.tx.0 call.owner) call.from rest (no_reply call.tx.0 call.owner) faults))
      more h

  other_on : (a : Arrival) (o : Option Call) (call : Call) → is_call copy.tx call ≡ false → FairCall lost records call → FairCall (flag a) (records ++ told a o) call
  other_on a o call e h =
      let apart : (copy.tx.0 == call.tx.0) ≡ false = other_copy copy.tx call e in
      copy_on a o call (and_middle copy.reply (copy.tx.0 == call.tx.0) (copy.from == call.owner) apart) (let less = more_lost (lost call.tx.0) (copy.tx.0 == call.tx.0) (is_asked_again a && loses given) apart in omega arith) h

  this_on : (a : Arrival) (call : Call) → arrival machine copy ≡ a → is_first_reply a ≡ false → call_of machine copy.tx ≡ Some call → FairCall lost records call → FairCall (flag a) (records ++ told a (Some call)) call
  this_on a call e f known h =
      let request = is_request machine counts number copy call a sound found known e f in
      copy_on a (Some call) call (three_off copy.reply (copy.tx.0 == call.tx.0) (copy.from == call.owner) request) (more_back a call) h
    where
      more_back : (a : Arrival) (call : Call) → once_if (flag a call.tx.0) ≤ once_if (lost call.tx.0) + losses call.from call.owner (told a (Some call))
      more_back a call =
          (let sum = count_on (has_event (is_loss call.from call.owner)) (record { kernel = copy.to; event = delivery copy } ∷ []) (again_told a copy.to given (Some call)) in
          let back = back_lost a copy.to given call in
          let both = either (lost call.tx.0) ((copy.tx.0 == call.tx.0) && (is_asked_again a && loses given)) in
          let one = second_less (copy.tx.0 == call.tx.0) (is_asked_again a && loses given) in omega arith)

  all_on : (a : Arrival) → arrival machine copy ≡ a → is_first_reply a ≡ false → AllByRecursion (FairCall lost records) machine.unfinished → AllByRecursion (FairCall (flag a) (records ++ told a (call_of machine copy.tx))) machine.unfinished
  all_on a e f h =
      each_same (FairCall lost records) (FairCall (flag a) (records ++ told a (call_of machine copy.tx))) copy.tx machine.begun machine.unfinished sound.numbered (λ other g k. other_on a (call_of machine copy.tx) other g k)
      (λ this g k. subst (λ (o : Option Call). FairCall (flag a) (records ++ told a o) this) (sym g) (this_on a this e f g k)) h

  arrived_on : (a : Arrival) → arrival machine copy ≡ a → AllByRecursion (FairCall lost records) machine.unfinished → AllByRecursion (FairCall (flag a) (records ++ told a (call_of machine copy.tx))) (delivered_as a copy given (landed copy machine)).unfinished
  arrived_on FirstReply e h =
      each_dropped (FairCall lost records) (FairCall (flag FirstReply) (records ++ told FirstReply (call_of machine copy.tx))) copy.tx 0 machine.begun machine.unfinished sound.numbered (λ other g k. other_on FirstReply (call_of machine copy.tx) other g k) h
  arrived_on FirstRequest e h = each_kept (FairCall (flag FirstRequest) (records ++ told FirstRequest (call_of machine copy.tx))) (is_call copy.tx) (further copy.to Holding) (λ call k. k) machine.unfinished (all_on FirstRequest e refl h)
  arrived_on AskedAgain e h =
      subst (AllByRecursion (FairCall (flag AskedAgain) (records ++ told AskedAgain (call_of machine copy.tx)))) (sym (unfinished_replied (call_of (landed copy machine) copy.tx) given (landed copy machine)).0) (all_on AskedAgain e refl h)
  arrived_on Past e h = all_on Past e refl h

deliver_fair : (o : Option PacketCopy) (lost : ℕ → Bool) (records : List Rec) (machine : Machine) (counts : Counts) (number : CopyNo) (given : Fate) → copy_of machine number ≡ o → Holds machine counts → AllByRecursion (FairCall lost records) machine.unfinished
    → AllByRecursion (FairCall (λ tx. lost tx || loses_again tx machine given o) (records ++ came_told machine given o)) (delivered_by o given machine).unfinished
deliver_fair None lost records machine counts number given found sound h = each_weaken (FairCall lost records) (FairCall (λ tx. lost tx || false) (records ++ [])) machine.unfinished (λ call k. faults_on lost (λ tx. lost tx || false) records [] call tt (let less = either (lost call.tx.0) false in omega arith) k) h
deliver_fair (Some copy) lost records machine counts number given found sound h = arrived_on lost records machine counts number copy given sound found (arrival machine copy) refl h

-- a copy that comes is no sending
came_unsent : (o : Option PacketCopy) (machine : Machine) (given : Fate) (kernel tx to : ℕ) → list_any (is_at kernel (is_send_to tx to)) (came_told machine given o) ≡ false
came_unsent None machine given kernel tx to = refl
came_unsent (Some copy) machine given kernel tx to =
    or_none ((copy.to == kernel) && false) _ (and_right (copy.to == kernel) false refl) (faults_none (is_send_to tx to) kernel (again_told (arrival machine copy) copy.to given (call_of machine copy.tx)) (no_send tx to) (again_are (arrival machine copy) copy.to given (call_of machine copy.tx)))

-- ---- an answer

answered_fair : (lost : ℕ → Bool) (records : List Rec) (machine : Machine) (tx : TxNo) (given : Fate) → IsNumbered 0 machine.unfinished machine.begun → AllByRecursion (FairCall lost records) machine.unfinished
    → AllByRecursion (FairCall (λ n. lost n || ((tx.0 == n) && loses given)) (records ++ answer_told given (call_of machine tx))) machine.unfinished
answered_fair lost records machine tx given numbered h =
    let flag : ℕ → Bool = λ n. lost n || ((tx.0 == n) && loses given) in
    each_same (FairCall lost records) (FairCall flag (records ++ answer_told given (call_of machine tx))) tx machine.begun machine.unfinished numbered
    (λ other e k. faults_on lost flag records (answer_told given (call_of machine tx)) other (answer_are given (call_of machine tx)) (let less = more_lost (lost other.tx.0) (tx.0 == other.tx.0) (loses given) (other_copy tx other e) in omega arith) k)
    (λ this e k. subst (λ (o : Option Call). FairCall flag (records ++ answer_told given o) this) (sym e) (faults_on lost flag records (answer_told given (Some this)) this (answer_are given (Some this)) (answer_lost (lost this.tx.0) (tx.0 == this.tx.0) this) k)) h
  where
    answer_lost : (l b : Bool) (call : Call) → once_if (l || (b && loses given)) ≤ once_if l + losses call.from call.owner (answer_told given (Some call))
    answer_lost l true call = (let back = fault_lost call.owner call.owner call.from call.from call.owner given (pair_back call.from call.owner) in let both = either l (loses given) in omega arith)
    answer_lost l false call = (let both = either l false in omega arith)

-- ---- a timer that fires

-- the timer of another call fires
other_fires : (lost later : ℕ → Bool) (records : List Rec) (key : TxNo) (at : ℕ) (b : Bool) (rest : List Rec) (call : Call) → (key.0 == call.tx.0) ≡ false → AreFaults rest → once_if (later call.tx.0) ≤ once_if (lost call.tx.0) → FairCall lost records call → FairCall later (records ++ record { kernel = at; event = events.Expire key b } ∷ rest) call
other_fires lost later records key at b rest call apart faults less h =
    call_on lost later records (record { kernel = at; event = events.Expire key b } ∷ rest) call
    (or_none ((at == call.from) && false) (list_any (is_at call.from (is_send_to call.tx.0 call.owner)) rest) (and_right (at == call.from) false refl) (faults_none (is_send_to call.tx.0 call.owner) call.from rest (no_send call.tx.0 call.owner) faults))
    (count_none (is_at call.from (is_expire call.tx.0)) (record { kernel = at; event = events.Expire key b } ∷ rest) (or_none ((at == call.from) && (key.0 == call.tx.0)) (list_any (is_at call.from (is_expire call.tx.0)) rest) (and_right (at == call.from) (key.0 == call.tx.0) apart) (faults_none (is_expire call.tx.0) call.from rest (no_expire call.tx.0) faults)))
    (or_none ((at == call.from) && false) (list_any (is_at call.from (is_reply_from call.tx.0 call.owner)) rest) (and_right (at == call.from) false refl) (faults_none (is_reply_from call.tx.0 call.owner) call.from rest (no_reply call.tx.0 call.owner) faults))
    (omega arith) h

-- the call's own timer fires, and it is sent again
again_fair : (tx from owner : ℕ) (key : TxNo) (tries : Tries) (over : ℕ) (sent : List (ℕ × Fate)) (between : List Rec) → key.0 ≡ tx → is_last_of tries over ≡ false → Fair true tx from owner tries over between → Fair (loses_to owner sent) tx from owner tries (lost_more tries over) (between ++ record { kernel = from; event = events.Expire key false } ∷ faults_told from sent)
again_fair tx from owner key tries over sent between same last h = record {
  enough = (let e = more in let l = count_on (has_event (is_loss from owner)) between told in let one = count_on (has_event (is_loss from owner)) (record { kernel = from; event = events.Expire key false } ∷ []) (faults_told from sent) in let some = faults_lost sent from owner in let old = h.enough in omega arith);
  counted = subst (λ (n : ℕ). IsTried n tries (lost_more tries over)) (sym more) (one_more (expiries from tx between) tries over last h.counted);
  unanswered = none_on (is_at from (is_reply_from tx owner)) between told h.unanswered (or_none ((from == from) && false) (list_any (is_at from (is_reply_from tx owner)) (faults_told from sent)) (and_right (from == from) false refl) (faults_none (is_reply_from tx owner) from (faults_told from sent) (no_reply tx owner) (faults_are from sent)));
}
  where
    told : List Rec
    told = record { kernel = from; event = events.Expire key false } ∷ faults_told from sent

    here : ((from == from) && (key.0 == tx)) ≡ true
    here = both_true (from == from) (key.0 == tx) (eq_same from) (subst (λ (n : ℕ). (key.0 == n) ≡ true) same (eq_same key.0))

    more : expiries from tx (between ++ told) ≡ expiries from tx between + 1
    more = (let sum = count_on (is_at from (is_expire tx)) between told in
        let first = count_on (is_at from (is_expire tx)) (record { kernel = from; event = events.Expire key false } ∷ []) (faults_told from sent) in
        let one = count_one (is_at from (is_expire tx)) (record { kernel = from; event = events.Expire key false }) in
        let once = ap once_if here in
        let zero = count_none (is_at from (is_expire tx)) (faults_told from sent) (faults_none (is_expire tx) from (faults_told from sent) (no_expire tx) (faults_are from sent)) in omega arith)

this_fires : (lost later : ℕ → Bool) (records : List Rec) (key : TxNo) (sent : List (ℕ × Fate)) (call : Call) → key.0 ≡ call.tx.0 → is_last call ≡ false → lost call.tx.0 ≡ true → later call.tx.0 ≡ loses_to call.owner sent → FairCall lost records call → FairCall later (records ++ record { kernel = call.from; event = events.Expire key false } ∷ faults_told call.from sent) (tried call)
this_fires lost later records key sent call same last was is h =
    let told : List Rec = record { kernel = call.from; event = events.Expire key false } ∷ faults_told call.from sent in (
      behind_more (is_at call.from (is_send_to call.tx.0 call.owner)) (Fair (lost call.tx.0) call.tx.0 call.from call.owner call.tries call.lost) (Fair (later call.tx.0) call.tx.0 call.from call.owner call.tries (lost_more call.tries call.lost)) records told
          (λ between k. subst (λ (b : Bool). Fair b call.tx.0 call.from call.owner call.tries (lost_more call.tries call.lost) (between ++ told)) (sym is)
          (again_fair call.tx.0 call.from call.owner key call.tries call.lost sent between same last (subst (λ (b : Bool). Fair b call.tx.0 call.from call.owner call.tries call.lost between) was k)))
          (or_none ((call.from == call.from) && false) (list_any (is_at call.from (is_send_to call.tx.0 call.owner)) (faults_told call.from sent)) (and_right (call.from == call.from) false refl) (faults_none (is_send_to call.tx.0 call.owner) call.from (faults_told call.from sent) (no_send call.tx.0 call.owner) (faults_are call.from sent))) h.0,
      any_first (is_at call.from (is_send_to call.tx.0 call.owner)) records told h.1,
    )

cond_true : (b x y : Bool) → b ≡ true → cond b x y ≡ x
cond_true true x y h = refl
cond_true false x y h = absurd (cc)

fires_fair : (b : Bool) (lost : ℕ → Bool) (records : List Rec) (machine : Machine) (key : TxNo) (call : Call) (sent : List (ℕ × Fate)) → call_of machine key ≡ Some call → is_last call ≡ b → lost key.0 ≡ true → IsNumbered 0 machine.unfinished machine.begun → AllByRecursion (FairCall lost records) machine.unfinished
    → AllByRecursion (FairCall (λ n. cond (key.0 == n) (loses_to call.owner sent) (lost n)) (records ++ record { kernel = call.from; event = events.Expire key b } ∷ cond {A = List Rec} b [] (faults_told call.from sent))) (cond b (gave_call_up key machine) (resent key (Some call) sent machine)).unfinished
fires_fair true lost records machine key call sent known last was numbered h =
    let flag : ℕ → Bool = λ n. cond (key.0 == n) (loses_to call.owner sent) (lost n) in
    each_dropped (FairCall lost records) (FairCall flag (records ++ record { kernel = call.from; event = events.Expire key true } ∷ [])) key 0 machine.begun machine.unfinished numbered
    (λ other e k. other_fires lost flag records key call.from true [] other (other_copy key other e) tt (flag_rest (key.0 == other.tx.0) (loses_to call.owner sent) (lost other.tx.0) (other_copy key other e)) k) h
fires_fair false lost records machine key call sent known last was numbered h =
    let flag : ℕ → Bool = λ n. cond (key.0 == n) (loses_to call.owner sent) (lost n) in
    let told : List Rec = record { kernel = call.from; event = events.Expire key false } ∷ faults_told call.from sent in
    each_changed (FairCall lost records) (FairCall flag (records ++ told)) key tried 0 machine.begun machine.unfinished numbered
    (λ other e k. other_fires lost flag records key call.from false (faults_told call.from sent) other (other_copy key other e) (faults_are call.from sent) (flag_rest (key.0 == other.tx.0) (loses_to call.owner sent) (lost other.tx.0) (other_copy key other e)) k)
    (λ this e k. subst (λ (one : Call). FairCall flag (records ++ told) (tried one)) (some_is call this (sym known ∙ e))
    (this_fires lost flag records key sent call (sym same) last (ap lost same ∙ was) (cond_true (key.0 == call.tx.0) (loses_to call.owner sent) (lost call.tx.0) here) (subst (FairCall lost records) (some_is this call (sym e ∙ known)) k))) h
  where
    same : call.tx.0 ≡ key.0
    same = eqb-true call.tx.0 key.0 (found_is key call machine.unfinished known)

    here : (key.0 == call.tx.0) ≡ true
    here = subst (λ (n : ℕ). (key.0 == n) ≡ true) (sym same) (eq_same key.0)

expire_fair : (o : Option Call) (lost : ℕ → Bool) (records : List Rec) (machine : Machine) (old new : Counts) (key : TxNo) (sent : List (ℕ × Fate)) → call_of machine key ≡ o → AsksAgain old new sent o → lost key.0 ≡ true → IsNumbered 0 machine.unfinished machine.begun → AllByRecursion (FairCall lost records) machine.unfinished
    → AllByRecursion (FairCall (λ n. cond (key.0 == n) (loses_to (owner_of o) sent) (lost n)) (records ++ fired_told key sent o)) (expired_by key o sent machine).unfinished
expire_fair None lost records machine old new key sent known asks was numbered h = absurd asks
expire_fair (Some call) lost records machine old new key sent known asks was numbered h = fires_fair (is_last call) lost records machine key call sent known refl was numbered h

-- no timer is a sending
fired_unsent : (o : Option Call) (key : TxNo) (sent : List (ℕ × Fate)) (kernel tx to : ℕ) → list_any (is_at kernel (is_send_to tx to)) (fired_told key sent o) ≡ false
fired_unsent None key sent kernel tx to = refl
fired_unsent (Some call) key sent kernel tx to =
    or_none ((call.from == kernel) && false) _ (and_right (call.from == kernel) false refl) (faults_none (is_send_to tx to) kernel (cond {A = List Rec} (is_last call) [] (faults_told call.from sent)) (no_send tx to) (rest_are (is_last call) call.from sent))

-- ---- each act of the wire

unsent_on : (records told : List Rec) (begun now : ℕ) → begun ≤ now → ((kernel tx to : ℕ) → now < tx → list_any (is_at kernel (is_send_to tx to)) told ≡ false) → ((kernel tx to : ℕ) → begun < tx → list_any (is_at kernel (is_send_to tx to)) records ≡ false) → (kernel tx to : ℕ) → now < tx → list_any (is_at kernel (is_send_to tx to)) (records ++ told) ≡ false
unsent_on records told begun now more unsent none kernel tx to past = none_on (is_at kernel (is_send_to tx to)) records told (none kernel tx to (omega arith)) (unsent kernel tx to past)

later_number : (begun tx : ℕ) → begun + 1 < tx → (begun + 1 == tx) ≡ false
later_number begun tx past = grind (arith, nat_tests)

fair_after : (lost : ℕ → Bool) (records : List Rec) (machine : Machine) (old : Counts) (act : Act) (new : Counts) → MayAct machine old act new → Holds machine old → IsLostWhereDue lost machine → AllFair lost records machine → AllFair (λ tx. lost_since tx machine act (lost tx)) (records ++ all_told_by machine act) (after machine act)
fair_after lost records machine old (Begin from port servers owner body tries about before sent) new may sound due h = record {
  calls = begin_fair lost records machine (new_call machine from port servers owner body tries about before) sent sound.numbered refl refl (sym (any_map (λ (packet : ℕ × Fate). packet.0) owner sent) ∙ ap (list_any (λ (n : ℕ). n == owner)) may.5 ∙ may.2) (subst AreApart (sym may.5) may.1) h;
  none = unsent_on records (sent_told from (next_of machine) sent) machine.begun (machine.begun + 1) (omega arith)
      (λ kernel tx to past. sent_none (is_send_to tx to) kernel from (next_of machine) sent (no_send tx to) (λ s. and_left (machine.begun + 1 == tx) (s == to) (later_number machine.begun tx past))) h.none;
}
fair_after lost records machine old (Deliver number given) new may sound due h = record {
  calls = deliver_fair (copy_of machine number) lost records machine old number given refl sound h.calls;
  none = subst (λ (n : ℕ). (kernel tx to : ℕ) → n < tx → list_any (is_at kernel (is_send_to tx to)) (records ++ came_told machine given (copy_of machine number)) ≡ false) (sym (delivered_begun (copy_of machine number) given machine))
      (unsent_on records (came_told machine given (copy_of machine number)) machine.begun machine.begun (omega arith) (λ kernel tx to past. came_unsent (copy_of machine number) machine given kernel tx to) h.none);
}
fair_after lost records machine old (Answer tx body given) new may sound due h =
    let flag : ℕ → Bool = λ n. lost n || ((tx.0 == n) && loses given) in
    let told = answer_told given (call_of machine tx) in
    let same = unfinished_replied (call_of machine tx) given machine in
    record {
      calls = each_kept (FairCall flag (records ++ told)) (is_call tx) (answered body) (λ call k. k) (replied (call_of machine tx) given machine).unfinished
          (subst (AllByRecursion (FairCall flag (records ++ told))) (sym same.0) (answered_fair lost records machine tx given sound.numbered h.calls));
      none = subst (λ (n : ℕ). (kernel key to : ℕ) → n < key → list_any (is_at kernel (is_send_to key to)) (records ++ told) ≡ false) (sym same.1)
          (unsent_on records told machine.begun machine.begun (omega arith) (λ kernel key to past. faults_none (is_send_to key to) kernel told (no_send key to) (answer_are given (call_of machine tx))) h.none);
    }
fair_after lost records machine old (Silence tx at) new may sound due h = record {
  calls = each_kept (FairCall lost (records ++ [])) (is_call tx) (further at Silent) (λ call k. k) machine.unfinished (subst (λ (rs : List Rec). AllByRecursion (FairCall lost rs) machine.unfinished) (sym (append-nil records)) h.calls);
  none = subst (λ (rs : List Rec). (kernel key to : ℕ) → machine.begun < key → list_any (is_at kernel (is_send_to key to)) rs ≡ false) (sym (append-nil records)) h.none;
}
fair_after lost records machine old (Expire key sent) new may sound due h = record {
  calls = expire_fair (call_of machine key) lost records machine old new key sent refl may.1 (due key may.0) sound.numbered h.calls;
  none = subst (λ (n : ℕ). (kernel tx to : ℕ) → n < tx → list_any (is_at kernel (is_send_to tx to)) (records ++ fired_told key sent (call_of machine key)) ≡ false) (sym (expired_begun (call_of machine key) key sent machine))
      (unsent_on records (fired_told key sent (call_of machine key)) machine.begun machine.begun (omega arith) (λ kernel tx to past. fired_unsent (call_of machine key) key sent kernel tx to) h.none);
}

-- behind all acts of a run, with what is lost then
record Ends (records : List Rec) (machine : Machine) : Type 0 where
  lost : ℕ → Bool
  due : IsLostWhereDue lost machine
  fair : AllFair lost records machine

fair_run : (steps : List (Act × Counts)) (lost : ℕ → Bool) (records : List Rec) (machine : Machine) (counts : Counts) → IsRun machine counts steps → Holds machine counts → EachLost lost machine steps → AllFair lost records machine → Ends (records ++ told_of all_told_by machine steps) (reached machine steps)
fair_run [] lost records machine counts run sound due h = subst (λ (rs : List Rec). Ends rs machine) (sym (append-nil records)) (record { lost = lost; due = due; fair = h })
fair_run (step ∷ steps) lost records machine counts run sound due h =
    let told = all_told_by machine step.0 in
    let next = after machine step.0 in
    let rest = fair_run steps (λ tx. lost_since tx machine step.0 (lost tx)) (records ++ told) next step.1 run.1 (after_holds machine counts step.0 step.1 run.0 sound) due.1 (fair_after lost records machine counts step.0 step.1 run.0 sound due.0 h) in
    subst (λ (rs : List Rec). Ends rs (reached machine (step ∷ steps))) (append_assoc records told (told_of all_told_by next steps)) rest

-- ---- the same of the trace's own records

-- a test that is the same without what sendings are for, and that passes records of packets alone
record LooksAtLink (test : Rec → Bool) : Type 0 where
  same : (r : Rec) → test (bare r) ≡ test r
  other : (r : Rec) → is_of_link r.event ≡ false → test r ≡ false

any_by : (test : Rec → Bool) → LooksAtLink test → (r : Rec) (trace : List Rec) (b : Bool) → is_of_link r.event ≡ b → list_any test (of_link trace) ≡ list_any test trace → list_any test (map bare (cond {A = List Rec} b (r ∷ filter (λ (r : Rec). is_of_link r.event) trace) (filter (λ (r : Rec). is_of_link r.event) trace))) ≡ (test r || list_any test trace)
any_by test looks r trace true is rest = ap₂ (λ (a b : Bool). a || b) (looks.same r) rest
any_by test looks r trace false is rest = rest ∙ sym (ap (λ (b : Bool). b || list_any test trace) (looks.other r is))

any_link : (test : Rec → Bool) → LooksAtLink test → (trace : List Rec) → list_any test (of_link trace) ≡ list_any test trace
any_link test looks [] = refl
any_link test looks (r ∷ trace) = any_by test looks r trace (is_of_link r.event) refl (any_link test looks trace)

count_link_by : (test : Rec → Bool) → LooksAtLink test → (r : Rec) (trace : List Rec) (b : Bool) → is_of_link r.event ≡ b → count_by test (of_link trace) ≡ count_by test trace → count_by test (map bare (cond {A = List Rec} b (r ∷ filter (λ (r : Rec). is_of_link r.event) trace) (filter (λ (r : Rec). is_of_link r.event) trace))) ≡ count_by test (r ∷ trace)
count_link_by test looks r trace true is rest =
    (let first = count_on test (bare r ∷ []) (of_link trace) in
    let one = count_one test (bare r) in
    let next = count_on test (r ∷ []) trace in
    let two = count_one test r in
    let same = ap once_if (looks.same r) in omega arith)
count_link_by test looks r trace false is rest =
    (let next = count_on test (r ∷ []) trace in
    let two = count_one test r in
    let none = ap once_if (looks.other r is) in omega arith)

count_link : (test : Rec → Bool) → LooksAtLink test → (trace : List Rec) → count_by test (of_link trace) ≡ count_by test trace
count_link test looks [] = refl
count_link test looks (r ∷ trace) = count_link_by test looks r trace (is_of_link r.event) refl (count_link test looks trace)

-- a test of events at a kernel, and one wherever it is
at_link : (p : Event → Bool) (kernel : ℕ) → ((e : Event) → p (bare_event e) ≡ p e) → ((e : Event) → is_of_link e ≡ false → p e ≡ false) → LooksAtLink (is_at kernel p)
at_link p kernel same other = record { same = λ r. ap (λ (b : Bool). (r.kernel == kernel) && b) (same r.event); other = λ r is. and_right (r.kernel == kernel) (p r.event) (other r.event is) }

reply_bare : (tx owner : ℕ) (e : Event) → is_reply_from tx owner (bare_event e) ≡ is_reply_from tx owner e
reply_bare tx owner (events.Send t to about kind) = refl
reply_bare tx owner e = refl

reply_other : (tx owner : ℕ) (e : Event) → is_of_link e ≡ false → is_reply_from tx owner e ≡ false
reply_other tx owner (events.Deliver t from reply about) is = absurd (cc)
reply_other tx owner e is = refl

loss_bare : (a b : ℕ) (e : Event) → is_loss a b (bare_event e) ≡ is_loss a b e
loss_bare a b (events.Send t to about kind) = refl
loss_bare a b e = refl

loss_other : (a b : ℕ) (e : Event) → is_of_link e ≡ false → is_loss a b e ≡ false
loss_other a b (events.Fault x y met) is = absurd (cc)
loss_other a b e is = refl

-- ---- it was given up

not_so : (b : Bool) → b ≡ false → not b ≡ true
not_so b h = ap not h

given_up_here : (kernel tx to : ℕ) (key : TxNo) (between more : List Rec) → key.0 ≡ tx → expiries kernel tx between ≡ 7 → 8 ≤ losses kernel to between → came_back kernel tx to between ≡ false → gave_up_from kernel tx to between (record { kernel = kernel; event = events.Expire key true } ∷ more) ≡ true
given_up_here kernel tx to key between more same seven_over eight none =
    let last : ((kernel == kernel) && ((key.0 == tx) && true)) ≡ true = both_true (kernel == kernel) ((key.0 == tx) && true) (eq_same kernel) (both_true (key.0 == tx) true (eq-eqb key.0 tx same) refl) in
    let lost : lost_eight kernel tx to between ≡ true = both_true (nat_le 8 (losses kernel to between)) (not (came_back kernel tx to between)) (le-leb 8 (losses kernel to between) eight) (not_so (came_back kernel tx to between) none) in
    ap (λ (b : Bool). b || gave_up_from kernel tx to (between ++ record { kernel = kernel; event = events.Expire key true } ∷ []) more)
    (both_true (((kernel == kernel) && ((key.0 == tx) && true)) && (expiries kernel tx between == 7)) (lost_eight kernel tx to between) (both_true ((kernel == kernel) && ((key.0 == tx) && true)) (expiries kernel tx between == 7) last (eq-eqb (expiries kernel tx between) 7 seven_over)) lost)

gave_up_later : (rest : List Rec) (kernel tx to : ℕ) (so_far more : List Rec) → gave_up_from kernel tx to (so_far ++ rest) more ≡ true → gave_up_from kernel tx to so_far (rest ++ more) ≡ true
gave_up_later [] kernel tx to so_far more h = subst (λ (rs : List Rec). gave_up_from kernel tx to rs more ≡ true) (append-nil so_far) h
gave_up_later (r ∷ rest) kernel tx to so_far more h =
    or_right _ (gave_up_from kernel tx to (so_far ++ r ∷ []) (rest ++ more)) (gave_up_later rest kernel tx to (so_far ++ r ∷ []) more (subst (λ (rs : List Rec). gave_up_from kernel tx to rs more ≡ true) (sym (append_assoc so_far (r ∷ []) rest)) h))

eight_lost : (over lost : ℕ) (was : Bool) → over ≡ 7 → was ≡ true → over + once_if was ≤ lost → 8 ≤ lost
eight_lost over lost was is due h = (let one = ap once_if due in omega arith)

pub given_up_behind_sends : GivenUpBehindSends
given_up_behind_sends first steps trace before between more tx call about kind run told known due last written =
    let machine = reached idle steps in
    let send : Rec = record { kernel = call.from; event = events.Send tx call.owner about kind } in
    let ends = fair_run steps (λ n. false) [] idle first run record { numbered = omega arith; flying = tt; calls = tt } (lost_before_expiry first steps run) record { calls = tt; none = λ kernel n to past. refl } in
    let same : call.tx.0 ≡ tx.0 = eqb-true call.tx.0 tx.0 (found_is tx call machine.unfinished known) in
    let fair : FairCall ends.lost (told_of all_told_by idle steps) call = found_sound (FairCall ends.lost (told_of all_told_by idle steps)) (is_call tx) call machine.unfinished known ends.fair.calls in
    let parted : told_of all_told_by idle steps ≡ of_link before ++ bare send ∷ of_link between = sym told ∙ (ap of_link written ∙ link_on before (send ∷ between)) in
    let passes : ((call.from == call.from) && ((tx.0 == call.tx.0) && (call.owner == call.owner))) ≡ true =
    both_true (call.from == call.from) ((tx.0 == call.tx.0) && (call.owner == call.owner)) (eq_same call.from) (both_true (tx.0 == call.tx.0) (call.owner == call.owner) (eq-eqb tx.0 call.tx.0 (sym same)) (eq_same call.owner)) in
    let here : Fair (ends.lost call.tx.0) call.tx.0 call.from call.owner call.tries call.lost (of_link between) =
    behind_at (is_at call.from (is_send_to call.tx.0 call.owner)) (Fair (ends.lost call.tx.0) call.tx.0 call.from call.owner call.tries call.lost) (of_link before) (bare send) (of_link between) passes
    (subst (Behind (is_at call.from (is_send_to call.tx.0 call.owner)) (Fair (ends.lost call.tx.0) call.tx.0 call.from call.owner call.tries call.lost)) parted fair.0) in
    let over = seven (expiries call.from call.tx.0 (of_link between)) call.tries call.lost last here.counted in
    let eight = eight_lost (expiries call.from call.tx.0 (of_link between)) (losses call.from call.owner (of_link between)) (ends.lost call.tx.0) over (ap ends.lost same ∙ ends.due tx due) here.enough in
    subst (λ (n : ℕ). gave_up call.from n call.owner (between ++ record { kernel = call.from; event = events.Expire tx true } ∷ more) ≡ true) same
    (gave_up_later between call.from call.tx.0 call.owner [] (record { kernel = call.from; event = events.Expire tx true } ∷ more)
    (given_up_here call.from call.tx.0 call.owner tx between more (sym same)
    (sym (count_link (is_at call.from (is_expire call.tx.0)) (at_link (is_expire call.tx.0) call.from (expire_bare call.tx.0) (expire_other call.tx.0)) between) ∙ over)
    (subst (λ (n : ℕ). 8 ≤ n) (count_link (has_event (is_loss call.from call.owner)) (record { same = λ r. loss_bare call.from call.owner r.event; other = λ r is. loss_other call.from call.owner r.event is }) between) eight)
    (sym (any_link (is_at call.from (is_reply_from call.tx.0 call.owner)) (at_link (is_reply_from call.tx.0 call.owner) call.from (reply_bare call.tx.0 call.owner) (reply_other call.tx.0 call.owner)) between) ∙ here.unanswered)))

-- and it was sent to its owner
pub sent_to_owner : (first : Counts) (steps : List (Act × Counts)) (trace : List Rec) (tx : TxNo) (call : Call) → IsRun idle first steps → of_link trace ≡ told_of all_told_by idle steps → call_of (reached idle steps) tx ≡ Some call → list_any (is_at call.from (is_send_to call.tx.0 call.owner)) trace ≡ true
sent_to_owner first steps trace tx call run told known =
    let machine = reached idle steps in
    let ends = fair_run steps (λ n. false) [] idle first run record { numbered = omega arith; flying = tt; calls = tt } (lost_before_expiry first steps run) record { calls = tt; none = λ kernel n to past. refl } in
    let fair : FairCall ends.lost (told_of all_told_by idle steps) call = found_sound (FairCall ends.lost (told_of all_told_by idle steps)) (is_call tx) call machine.unfinished known ends.fair.calls in
    sym (any_link (is_at call.from (is_send_to call.tx.0 call.owner)) (at_link (is_send_to call.tx.0 call.owner) call.from (bare_same call.tx.0 call.owner) (other_none call.tx.0 call.owner)) trace)
    ∙ (ap (list_any (is_at call.from (is_send_to call.tx.0 call.owner))) told ∙ fair.1)
