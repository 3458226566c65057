-- Few packets come of a call that a trace tells to have been sent.
use Rattle.std.proofs.Common.{arith, ◌≡◌, ℕ, zero, suc, ◌+◌, ◌*◌, ◌≤◌, ◌==◌, Bool, true, false, ◌&&◌, not, cond, List, [], ◌∷◌, refl, subst, count_by}
use Rattle.std.specs.List.{list_all}
use Rattle.std.proofs.lemmas.Bool.{le-leb, and_from}
use Rattle.kernel_rpc.specs.Machine.{Machine, idle}
use Rattle.kernel_rpc.specs.Histories.{brings, times}
use Rattle.kernel_rpc.specs.Runs.{Act, Counts, IsRun, once_if}
use Rattle.kernel_rpc.specs.Steps.{counts_in}
use Rattle.kernel_rpc.specs.Sound.{Wired}
use Rattle.unix_calls.specs.declared.Event.{Event}
use Rattle.unix_calls.specs.declared.Event.TheVariants as events
use Rattle.unix_calls.specs.declared.Rec.{Rec}
use Rattle.call_journal.specs.Matching.{has_event, is_expire, is_send_to}
use Rattle.call_journal.specs.WorthPackets.{are_few, deliveries, delivers_few, is_delivered_at, sendings}
use Rattle.cluster_wire_laws.specs.Told.{begins_to, is_packet_of, sends_again, tells_again, tells_packet}
use Rattle.cluster_wire_laws.specs.Traces.{FewPacketsCome, ReachedSo, SixPacketsEach, records_so}
use Rattle.cluster_wire_laws.proofs.AwayLaws.{none_come}
use Rattle.cluster_wire_laws.proofs.SendingLaws.{begins_are_told}
use Rattle.cluster_wire_laws.proofs.SixLaws.{six_of}
use Rattle.cluster_wire_laws.proofs.TallyLaws.{agains_so, first_of, packets_so}

-- counts of what passes a test
more_counts : {X : Type 0} (p q : X → Bool) → ((x : X) → once_if (p x) ≤ once_if (q x)) → (xs : List X) → count_by p xs ≤ count_by q xs
more_counts p q more [] = omega arith
more_counts p q more (x ∷ xs) = (let fewer = first_of p x xs in let others = first_of q x xs in let here = more x in let rest = more_counts p q more xs in omega arith)

-- a delivery is a record of a packet of its call
same_packet : (tx receiver : ℕ) (r : Rec) (e : Event) → once_if (is_delivered_at tx receiver r e) ≤ once_if (tells_packet tx receiver r.kernel e)
same_packet tx receiver r (events.Deliver key from reply about) = omega arith
same_packet tx receiver r e = omega arith

-- and a request that is sent again one that a try is over
pub first_most : (a b : Bool) → once_if (a && b) ≤ once_if a
first_most true true = omega arith
first_most true false = omega arith
first_most false b = omega arith

again_expires : (tx kernel : ℕ) (e : Event) → once_if (tells_again tx kernel e) ≤ once_if (is_expire tx e)
again_expires tx kernel (events.Expire key last) = first_most (key.0 == tx) (not last)
again_expires tx kernel e = omega arith

-- a packet is a request or a reply
pub either_packet : (a r k t : Bool) → once_if (a && cond r k t) ≤ once_if (a && (not r && t)) + once_if (a && r)
either_packet true true true t = omega arith
either_packet true true false t = omega arith
either_packet true false k t = omega arith
either_packet false r k t = omega arith

-- six for each time that the request was sent to the receiver
pub six_by : (tx receiver again : ℕ) (counts : Counts) (steps : List (Act × Counts)) (n : ℕ) → IsRun idle counts steps → times (brings (is_packet_of tx receiver)) idle steps ≤ 6 * (1 + again) → times (begins_to tx receiver) idle steps ≡ n → times (brings (is_packet_of tx receiver)) idle steps ≤ 6 * (n + again)
six_by tx receiver again counts steps zero run six is = (let none = none_come tx receiver counts steps run is in omega arith)
six_by tx receiver again counts steps (suc n) run six is = omega arith

pub six_packets : {L : Type 0} (faults asked : L → ℕ → ℕ → ℕ) → SixPacketsEach faults asked
six_packets faults asked begun wire trace tx receiver reached =
    (let counts = counts_in faults asked reached.first.link in
    let run : IsRun idle counts reached.steps = subst (λ (machine : Machine). IsRun machine counts reached.steps) reached.idles reached.ran.run in
    let packets = packets_so tx receiver trace reached.steps idle reached.in_order in
    let again = agains_so tx trace reached.steps idle reached.in_order in
    let most = six_of tx receiver (is_packet_of tx receiver) counts reached.steps (λ copy. either_packet (copy.tx.0 == tx) copy.reply (copy.from == receiver) (copy.to == receiver)) run in
    let six = six_by tx receiver (times (sends_again tx) idle reached.steps) counts reached.steps (times (begins_to tx receiver) idle reached.steps) run most refl in omega arith)

-- few packets of a call come where the trace tells the packet to the receiver with which it begins
few_told : {L : Type 0} (faults asked : L → ℕ → ℕ → ℕ) (begun : L) (wire : Wired L) (trace : List Rec) (tx receiver : ℕ) (reached : ReachedSo faults asked begun wire trace) → times (begins_to tx receiver) idle reached.steps ≤ count_by (has_event (is_send_to tx receiver)) trace → are_few tx receiver trace ≡ true
few_told faults asked begun wire trace tx receiver reached told =
    (let six = six_packets faults asked begun wire trace tx receiver reached in
    let came : deliveries tx receiver trace ≤ records_so (tells_packet tx receiver) trace = more_counts (λ (r : Rec). is_delivered_at tx receiver r r.event) (λ (r : Rec). tells_packet tx receiver r.kernel r.event) (λ r. same_packet tx receiver r r.event) trace in
    let over : records_so (tells_again tx) trace ≤ count_by (has_event (is_expire tx)) trace = more_counts (λ (r : Rec). tells_again tx r.kernel r.event) (has_event (is_expire tx)) (λ r. again_expires tx r.kernel r.event) trace in
    le-leb (deliveries tx receiver trace) (6 * sendings tx receiver trace) (omega arith))

each_told : {L : Type 0} (faults asked : L → ℕ → ℕ → ℕ) (begun : L) (wire : Wired L) (trace : List Rec) (reached : ReachedSo faults asked begun wire trace) → ((tx receiver : ℕ) → times (begins_to tx receiver) idle reached.steps ≤ count_by (has_event (is_send_to tx receiver)) trace) → (kernel : ℕ) (e : Event) → delivers_few e kernel trace ≡ true
each_told faults asked begun wire trace reached told kernel (events.Deliver tx from reply about) = few_told faults asked begun wire trace tx.0 (cond reply from kernel) reached (told tx.0 (cond reply from kernel))
each_told faults asked begun wire trace reached told kernel e = refl

all_so : {X : Type 0} (p : X → Bool) → ((x : X) → p x ≡ true) → (xs : List X) → list_all p xs ≡ true
all_so p each [] = refl
all_so p each (x ∷ xs) = and_from (p x) (list_all p xs) (each x) (all_so p each xs)

pub few_packets : {L : Type 0} (faults asked : L → ℕ → ℕ → ℕ) → FewPacketsCome faults asked
few_packets faults asked begun wire trace reached = all_so (λ (r : Rec). delivers_few r.event r.kernel trace) (λ r. each_told faults asked begun wire trace reached (λ tx receiver. (let told = begins_are_told tx receiver trace reached.steps idle reached.linked in told)) r.kernel r.event) trace
