-- A trace tells each packet with which a call begins.
use Rattle.std.proofs.Common.{arith, ◌≡◌, ℕ, ◌+◌, ◌≤◌, ◌==◌, Bool, true, false, ◌&&◌, ◌||◌, cond, List, [], ◌∷◌, map, refl, ap, filter, count_by, ◌++◌, None}
use Rattle.std.specs.List.{list_any}
use Rattle.std.proofs.lemmas.List.Sums.{sum_by-append}
use mathlib.Core.Bool.{and-false}
use Rattle.sprite_ids.specs.declared.TxNo.{TxNo}
use Rattle.link_plan.specs.declared.Fate.{Fate}
use Rattle.kernel_rpc.specs.Histories.{times}
use Rattle.kernel_rpc.specs.Machine.{Machine}
use Rattle.kernel_rpc.specs.Runs.{Act, Begin, Deliver, Answer, Silence, Expire, Counts, after, once_if}
use Rattle.unix_calls.specs.declared.Event.{Event}
use Rattle.unix_calls.specs.declared.Event.TheVariants as events
use Rattle.unix_calls.specs.declared.SendKind.TheVariants.{Other}
use Rattle.unix_calls.specs.declared.Rec.{Rec}
use Rattle.call_journal.specs.Matching.{has_event, is_send_to}
use Rattle.cluster_wire.specs.Goings.{next_of}
use Rattle.cluster_wire.specs.Ran.{told_of}
use Rattle.cluster_wire_laws.specs.Links.{all_told_by, bare, bare_event, fault_told, is_of_link, of_link, sent_told}
use Rattle.cluster_wire_laws.specs.Told.{begins_to}
use Rattle.cluster_wire_laws.proofs.TallyLaws.{first_of}

-- how often a list of records tells that the call was sent to the receiver
abbrev sendings_to : ℕ → ℕ → List Rec → ℕ
sendings_to tx receiver records = count_by (has_event (is_send_to tx receiver)) records

pub bare_same : (tx receiver : ℕ) (e : Event) → is_send_to tx receiver (bare_event e) ≡ is_send_to tx receiver e
bare_same tx receiver (events.Send t to about kind) = refl
bare_same tx receiver e = refl

pub other_none : (tx receiver : ℕ) (e : Event) → is_of_link e ≡ false → is_send_to tx receiver e ≡ false
other_none tx receiver (events.Send t to about kind) is = absurd (cc)
other_none tx receiver e is = refl

-- no other record does
link_counts : (tx receiver : ℕ) (trace : List Rec) → sendings_to tx receiver trace ≡ sendings_to tx receiver (of_link trace)
link_counts tx receiver [] = refl
link_counts tx receiver (r ∷ trace) = by_first (is_of_link r.event) refl (link_counts tx receiver trace)
  where
    by_first : (of : Bool) → is_of_link r.event ≡ of → sendings_to tx receiver trace ≡ sendings_to tx receiver (of_link trace) → sendings_to tx receiver (r ∷ trace) ≡ sendings_to tx receiver (map bare (cond {A = List Rec} of (r ∷ filter (λ (r : Rec). is_of_link r.event) trace) (filter (λ (r : Rec). is_of_link r.event) trace)))
    by_first true is rest =
        (let first = first_of (has_event (is_send_to tx receiver)) r trace in
        let other = first_of (has_event (is_send_to tx receiver)) (bare r) (of_link trace) in
        let same = ap once_if (bare_same tx receiver r.event) in omega arith)
    by_first false is rest = (let first = first_of (has_event (is_send_to tx receiver)) r trace in let none = ap once_if (other_none tx receiver r.event is) in omega arith)

-- a call that begins tells its packets
either_sent : (b x y : Bool) → once_if (b && (x || y)) ≤ once_if (b && x) + once_if (b && y)
either_sent true true y = omega arith
either_sent true false y = omega arith
either_sent false x y = omega arith

sent_counts : (tx receiver kernel : ℕ) (key : TxNo) (packets : List (ℕ × Fate)) → once_if ((key.0 == tx) && list_any (λ (packet : ℕ × Fate). packet.0 == receiver) packets) ≤ sendings_to tx receiver (sent_told kernel key packets)
sent_counts tx receiver kernel key [] = (let none = ap once_if (and-false (key.0 == tx)) in omega arith)
sent_counts tx receiver kernel key (packet ∷ packets) =
    (let first = first_of (has_event (is_send_to tx receiver)) (record { kernel = kernel; event = events.Send key packet.0 None Other }) (fault_told kernel kernel packet.0 packet.1 ++ sent_told kernel key packets) in
    let behind = sum_by-append (λ (r : Rec). cond {A = ℕ} (has_event (is_send_to tx receiver) r) 1 0) (fault_told kernel kernel packet.0 packet.1) (sent_told kernel key packets) in
    let either = either_sent (key.0 == tx) (packet.0 == receiver) (list_any (λ (packet : ℕ × Fate). packet.0 == receiver) packets) in
    let rest = sent_counts tx receiver kernel key packets in omega arith)

act_counts : (tx receiver : ℕ) (machine : Machine) (act : Act) → once_if (begins_to tx receiver machine act) ≤ sendings_to tx receiver (all_told_by machine act)
act_counts tx receiver machine (Begin from port servers owner body tries about before sent) = sent_counts tx receiver from (next_of machine) sent
act_counts tx receiver machine (Deliver number given) = omega arith
act_counts tx receiver machine (Answer key body given) = omega arith
act_counts tx receiver machine (Silence key at) = omega arith
act_counts tx receiver machine (Expire key sent) = omega arith

run_counts : (tx receiver : ℕ) (steps : List (Act × Counts)) (machine : Machine) → times (begins_to tx receiver) machine steps ≤ sendings_to tx receiver (told_of all_told_by machine steps)
run_counts tx receiver [] machine = omega arith
run_counts tx receiver (step ∷ steps) machine =
    (let all = sum_by-append (λ (r : Rec). cond {A = ℕ} (has_event (is_send_to tx receiver) r) 1 0) (all_told_by machine step.0) (told_of all_told_by (after machine step.0) steps) in
    let here = act_counts tx receiver machine step.0 in
    let rest = run_counts tx receiver steps (after machine step.0) in omega arith)

pub begins_are_told : (tx receiver : ℕ) (trace : List Rec) (steps : List (Act × Counts)) (machine : Machine) → of_link trace ≡ told_of all_told_by machine steps → times (begins_to tx receiver) machine steps ≤ count_by (has_event (is_send_to tx receiver)) trace
begins_are_told tx receiver trace steps machine linked =
    (let same = link_counts tx receiver trace in
    let told = ap (sendings_to tx receiver) linked in
    let run = run_counts tx receiver steps machine in omega arith)
