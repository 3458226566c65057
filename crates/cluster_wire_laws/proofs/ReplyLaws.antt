-- Each call of which a run tells that a reply came between two kernels is answered between the two in the run.
use Rattle.std.proofs.Common.{arith, ◌≡◌, ℕ, ◌≤◌, Bool, true, false, ◌&&◌, cond, List, [], ◌∷◌, ◌++◌, length, length-append, append_assoc, Option, Some, None, is_some, refl, sym, ap, subst, ◌∙◌}
use Rattle.std.specs.List.{AllByRecursion, find}
use Rattle.std.proofs.lemmas.Bool.{eqb-true}
use Rattle.sprite_ids.specs.declared.TxNo.{TxNo}
use Rattle.sprite_ids.specs.Lists.{changed}
use Rattle.sprite_ids.proofs.ListLaws.{each_append, each_of_append, each_push, some_is}
use Rattle.link_plan.specs.Counts.{same_pair}
use Rattle.link_plan.specs.declared.Fate.{Fate}
use Rattle.kernel_rpc.specs.declared.Arrival.{Arrival}
use Rattle.kernel_rpc.specs.declared.Arrival.TheVariants.{FirstRequest, FirstReply, AskedAgain, Past}
use Rattle.kernel_rpc.specs.declared.Call.{Call}
use Rattle.kernel_rpc.specs.declared.PacketCopy.{PacketCopy}
use Rattle.kernel_rpc.specs.declared.Part.TheVariants.{Holding, Silent}
use Rattle.kernel_rpc.specs.Copies.{requests}
use Rattle.kernel_rpc.specs.Histories.{times}
use Rattle.kernel_rpc.specs.Machine.{Machine, answered, arrival, call_of, copy_of, delivered_as, further, gave_up, idle, is_call, is_copy, is_last, landed, new_call, replied, reply_to, request, resent, tried}
use Rattle.kernel_rpc.specs.Runs.{Act, Begin, Deliver, Answer, Silence, Expire, Counts, after, delivered_by, expired_by, once_if}
use Rattle.kernel_rpc.proofs.ArrivalLaws.{asked_again}
use Rattle.kernel_rpc.proofs.CopyLaws.{each_by, each_request, each_without}
use Rattle.kernel_rpc.proofs.NumberLaws.{each_changed}
use Rattle.kernel_rpc.proofs.RunLaws.{Ordered, ordered_after, unfinished_replied}
use Rattle.kernel_rpc.proofs.SoundLaws.{found_is, found_sound}
use Rattle.kernel_rpc.proofs.TryLaws.{each_kept}
use Rattle.cluster_wire.specs.Ran.{told_of}
use Rattle.cluster_wire_laws.specs.Asks.{answers_between, is_between}
use Rattle.cluster_wire_laws.specs.Orders.{copy_told, firing_told, told_by}
use Rattle.cluster_wire_laws.specs.Replies.{calls_replied, replies_told, reply_told}
use Rattle.cluster_wire_laws.proofs.DifferLaws.{IsAmong, each_among, few_differ}
use Rattle.unix_calls.specs.declared.Rec.{Rec}

-- the number of a call between the two, as it is answered
abbrev number_of : Bool → TxNo → List ℕ
number_of true tx = tx.0 ∷ []
number_of false tx = []

abbrev answered_by : ℕ → ℕ → Machine → Act → List ℕ
answered_by a b machine (Begin from port servers owner body tries about before sent) = []
answered_by a b machine (Deliver number given) = []
answered_by a b machine (Answer tx body given) = number_of (is_between a b (call_of machine tx)) tx
answered_by a b machine (Silence tx at) = []
answered_by a b machine (Expire tx sent) = []

one_number : (b : Bool) (tx : TxNo) → length (number_of b tx) ≡ once_if b
one_number true tx = refl
one_number false tx = refl

act_numbers : (a b : ℕ) (machine : Machine) (act : Act) → length (answered_by a b machine act) ≡ once_if (answers_between a b machine act)
act_numbers a b machine (Begin from port servers owner body tries about before sent) = refl
act_numbers a b machine (Deliver number given) = refl
act_numbers a b machine (Answer tx body given) = one_number (is_between a b (call_of machine tx)) tx
act_numbers a b machine (Silence tx at) = refl
act_numbers a b machine (Expire tx sent) = refl

run_numbers : (a b : ℕ) (steps : List (Act × Counts)) (machine : Machine) → length (told_of (answered_by a b) machine steps) ≡ times (answers_between a b) machine steps
run_numbers a b [] machine = refl
run_numbers a b (step ∷ steps) machine =
    (let sum = length-append (answered_by a b machine step.0) (told_of (answered_by a b) (after machine step.0) steps) in
    let here = act_numbers a b machine step.0 in
    let rest = run_numbers a b steps (after machine step.0) in omega arith)

-- where a copy is one of a reply between the two, its call's number is known
abbrev IsKnownCopy : ℕ → ℕ → List ℕ → PacketCopy → Type 0
IsKnownCopy a b numbers copy = (copy.reply && same_pair a b copy.from copy.to) ≡ true → IsAmong numbers copy.tx.0

-- where a call between the two has a reply, its number is
abbrev IsKnownCall : ℕ → ℕ → List ℕ → Call → Type 0
IsKnownCall a b numbers call = is_some call.reply ≡ true → same_pair a b call.owner call.from ≡ true → IsAmong numbers call.tx.0

record Known (a b : ℕ) (numbers : List ℕ) (machine : Machine) : Type 0 where
  numbered : Ordered machine
  calls : AllByRecursion (IsKnownCall a b numbers) machine.unfinished
  copies : AllByRecursion (IsKnownCopy a b numbers) machine.copies

-- the copies of a reply are of a known call
replied_copies : (a b : ℕ) (numbers : List ℕ) (o : Option Call) (given : Fate) (machine : Machine) → ((call : Call) → o ≡ Some call → same_pair a b call.owner call.from ≡ true → IsAmong numbers call.tx.0) → AllByRecursion (IsKnownCopy a b numbers) machine.copies → AllByRecursion (IsKnownCopy a b numbers) (replied o given machine).copies
replied_copies a b numbers None given machine may h = h
replied_copies a b numbers (Some call) given machine may h = each_append (IsKnownCopy a b numbers) machine.copies _ h (each_by (IsKnownCopy a b numbers) given (reply_to call machine.next_copy) (may call refl) (may call refl) (may call refl))

-- those of a request are none of a reply
request_copies : (a b : ℕ) (numbers : List ℕ) (call : Call) (next number : ℕ) (sent : List (ℕ × Fate)) → AllByRecursion (IsKnownCopy a b numbers) (requests (request call next call.owner) number sent)
request_copies a b numbers call next number sent = each_request (IsKnownCopy a b numbers) (request call next call.owner) number sent (λ n to late e. absurd (cc)) (λ n to e. absurd (cc))

-- what is sent once more was answered
again_known : (a b : ℕ) (numbers : List ℕ) (copy : PacketCopy) (machine : Machine) → AllByRecursion (IsKnownCall a b numbers) machine.unfinished → arrival machine copy ≡ AskedAgain → (call : Call) → call_of machine copy.tx ≡ Some call → same_pair a b call.owner call.from ≡ true → IsAmong numbers call.tx.0
again_known a b numbers copy machine h is call found pair =
    let again = asked_again copy (call_of machine copy.tx) is in
    let known = found_sound (IsKnownCall a b numbers) (is_call copy.tx) call machine.unfinished found h in
    known (ap (λ (call : Call). is_some call.reply) (some_is call again.0 (sym found ∙ again.1)) ∙ again.2) pair

arrived_copies : (a b : ℕ) (numbers : List ℕ) (at : Arrival) (copy : PacketCopy) (given : Fate) (machine : Machine) → Known a b numbers machine → arrival machine copy ≡ at → AllByRecursion (IsKnownCopy a b numbers) (delivered_as at copy given (landed copy machine)).copies
arrived_copies a b numbers FirstRequest copy given machine h is = each_without (IsKnownCopy a b numbers) (is_copy copy.number) machine.copies h.copies
arrived_copies a b numbers FirstReply copy given machine h is = each_without (IsKnownCopy a b numbers) (is_copy copy.number) machine.copies h.copies
arrived_copies a b numbers AskedAgain copy given machine h is = replied_copies a b numbers (call_of (landed copy machine) copy.tx) given (landed copy machine) (again_known a b numbers copy machine h.calls is) (each_without (IsKnownCopy a b numbers) (is_copy copy.number) machine.copies h.copies)
arrived_copies a b numbers Past copy given machine h is = each_without (IsKnownCopy a b numbers) (is_copy copy.number) machine.copies h.copies

arrived_calls : (a b : ℕ) (numbers : List ℕ) (at : Arrival) (copy : PacketCopy) (given : Fate) (machine : Machine) → AllByRecursion (IsKnownCall a b numbers) machine.unfinished → AllByRecursion (IsKnownCall a b numbers) (delivered_as at copy given (landed copy machine)).unfinished
arrived_calls a b numbers FirstRequest copy given machine h = each_kept (IsKnownCall a b numbers) (is_call copy.tx) (further copy.to Holding) (λ call k. k) machine.unfinished h
arrived_calls a b numbers FirstReply copy given machine h = each_without (IsKnownCall a b numbers) (is_call copy.tx) machine.unfinished h
arrived_calls a b numbers AskedAgain copy given machine h = subst (AllByRecursion (IsKnownCall a b numbers)) (sym (unfinished_replied (call_of (landed copy machine) copy.tx) given (landed copy machine)).0) h
arrived_calls a b numbers Past copy given machine h = h

delivered_copies : (a b : ℕ) (numbers : List ℕ) (o : Option PacketCopy) (given : Fate) (machine : Machine) → Known a b numbers machine → AllByRecursion (IsKnownCopy a b numbers) (delivered_by o given machine).copies
delivered_copies a b numbers None given machine h = h.copies
delivered_copies a b numbers (Some copy) given machine h = arrived_copies a b numbers (arrival machine copy) copy given machine h refl

delivered_calls : (a b : ℕ) (numbers : List ℕ) (o : Option PacketCopy) (given : Fate) (machine : Machine) → AllByRecursion (IsKnownCall a b numbers) machine.unfinished → AllByRecursion (IsKnownCall a b numbers) (delivered_by o given machine).unfinished
delivered_calls a b numbers None given machine h = h
delivered_calls a b numbers (Some copy) given machine h = arrived_calls a b numbers (arrival machine copy) copy given machine h

-- a call that is answered is known from then on
named_by : (numbers : List ℕ) (tx : TxNo) (b : Bool) → AllByRecursion (IsAmong numbers) (number_of b tx) → b ≡ true → IsAmong numbers tx.0
named_by numbers tx true named is = named.0
named_by numbers tx false named is = absurd (cc)

answer_known : (a b : ℕ) (numbers : List ℕ) (tx : TxNo) (machine : Machine) → AllByRecursion (IsAmong numbers) (number_of (is_between a b (call_of machine tx)) tx) → (call : Call) → call_of machine tx ≡ Some call → same_pair a b call.owner call.from ≡ true → IsAmong numbers call.tx.0
answer_known a b numbers tx machine named call found pair =
    let known = named_by numbers tx (is_between a b (call_of machine tx)) named (ap (is_between a b) found ∙ pair) in
    subst (IsAmong numbers) (sym (eqb-true call.tx.0 tx.0 (found_is tx call machine.unfinished found))) known

answered_calls : (a b : ℕ) (numbers : List ℕ) (o : Option Call) (tx : TxNo) (body : List ℕ) (given : Fate) (machine : Machine) → Known a b numbers machine → ((call : Call) → call_of machine tx ≡ Some call → same_pair a b call.owner call.from ≡ true → IsAmong numbers call.tx.0) → AllByRecursion (IsKnownCall a b numbers) (changed (is_call tx) (answered body) (replied o given machine).unfinished)
answered_calls a b numbers o tx body given machine h known = subst (λ (calls : List Call). AllByRecursion (IsKnownCall a b numbers) (changed (is_call tx) (answered body) calls)) (sym (unfinished_replied o given machine).0)
    (each_changed (IsKnownCall a b numbers) (IsKnownCall a b numbers) tx (answered body) 0 machine.begun machine.unfinished h.numbered (λ other e k. k) (λ call found k some pair. known call found pair) h.calls)

expired_copies : (a b : ℕ) (numbers : List ℕ) (o : Option Call) (tx : TxNo) (sent : List (ℕ × Fate)) (machine : Machine) → AllByRecursion (IsKnownCopy a b numbers) machine.copies → AllByRecursion (IsKnownCopy a b numbers) (expired_by tx o sent machine).copies
expired_copies a b numbers None tx sent machine h = h
expired_copies a b numbers (Some call) tx sent machine h = elim (is_last call) as (λ last. AllByRecursion (IsKnownCopy a b numbers) (cond last (gave_up tx machine) (resent tx (Some call) sent machine)).copies) [ true ↦ h | false ↦ each_append (IsKnownCopy a b numbers) machine.copies (requests (request call machine.next_copy call.owner) machine.next_copy sent) h (request_copies a b numbers call machine.next_copy machine.next_copy sent) ]

expired_calls : (a b : ℕ) (numbers : List ℕ) (o : Option Call) (tx : TxNo) (sent : List (ℕ × Fate)) (machine : Machine) → AllByRecursion (IsKnownCall a b numbers) machine.unfinished → AllByRecursion (IsKnownCall a b numbers) (expired_by tx o sent machine).unfinished
expired_calls a b numbers None tx sent machine h = h
expired_calls a b numbers (Some call) tx sent machine h = elim (is_last call) as (λ last. AllByRecursion (IsKnownCall a b numbers) (cond last (gave_up tx machine) (resent tx (Some call) sent machine)).unfinished) [ true ↦ each_without (IsKnownCall a b numbers) (is_call tx) machine.unfinished h | false ↦ each_kept (IsKnownCall a b numbers) (is_call tx) tried (λ call k. k) machine.unfinished h ]

-- each act keeps that, where the call that it answers is known
known_after : (a b : ℕ) (numbers : List ℕ) (machine : Machine) (act : Act) → AllByRecursion (IsAmong numbers) (answered_by a b machine act) → Known a b numbers machine → Known a b numbers (after machine act)
known_after a b numbers machine (Begin from port servers owner body tries about before sent) named h = record {
  numbered = ordered_after machine (Begin from port servers owner body tries about before sent) h.numbered;
  calls = each_push (IsKnownCall a b numbers) machine.unfinished (new_call machine from port servers owner body tries about before) h.calls (λ e pair. absurd (cc));
  copies = each_append (IsKnownCopy a b numbers) machine.copies (requests (request (new_call machine from port servers owner body tries about before) machine.next_copy owner) machine.next_copy sent) h.copies (request_copies a b numbers (new_call machine from port servers owner body tries about before) machine.next_copy machine.next_copy sent);
}
known_after a b numbers machine (Deliver number given) named h = record {
  numbered = ordered_after machine (Deliver number given) h.numbered;
  calls = delivered_calls a b numbers (copy_of machine number) given machine h.calls;
  copies = delivered_copies a b numbers (copy_of machine number) given machine h;
}
known_after a b numbers machine (Answer tx body given) named h =
    let known = answer_known a b numbers tx machine named in
    record {
      numbered = ordered_after machine (Answer tx body given) h.numbered;
      calls = answered_calls a b numbers (call_of machine tx) tx body given machine h known;
      copies = replied_copies a b numbers (call_of machine tx) given machine known h.copies;
    }
known_after a b numbers machine (Silence tx at) named h = record {
  numbered = ordered_after machine (Silence tx at) h.numbered;
  calls = each_kept (IsKnownCall a b numbers) (is_call tx) (further at Silent) (λ call k. k) machine.unfinished h.calls;
  copies = h.copies;
}
known_after a b numbers machine (Expire tx sent) named h = record {
  numbered = ordered_after machine (Expire tx sent) h.numbered;
  calls = expired_calls a b numbers (call_of machine tx) tx sent machine h.calls;
  copies = expired_copies a b numbers (call_of machine tx) tx sent machine h.copies;
}

-- what is told of an act is of known calls
found_by : (P : PacketCopy → Type 0) (first copy : PacketCopy) (o : Option PacketCopy) → P first → (o ≡ Some copy → P copy) → (b : Bool) → cond b (Some first) o ≡ Some copy → P copy
found_by P first copy o here later true is = subst P (some_is first copy is) here
found_by P first copy o here later false is = later is

found_copy : (P : PacketCopy → Type 0) (p : PacketCopy → Bool) (copy : PacketCopy) (copies : List PacketCopy) → AllByRecursion P copies → find p copies ≡ Some copy → P copy
found_copy P p copy [] h is = absurd (cc)
found_copy P p copy (first ∷ copies) h is = found_by P first copy (find p copies) h.0 (found_copy P p copy copies h.1) (p first) is

told_known : (numbers : List ℕ) (n : ℕ) (b : Bool) → (b ≡ true → IsAmong numbers n) → AllByRecursion (IsAmong numbers) (cond {A = List ℕ} b (n ∷ []) [] ++ [])
told_known numbers n true known = (known refl, tt)
told_known numbers n false known = tt

copy_known : (a b : ℕ) (numbers : List ℕ) (o : Option PacketCopy) → ((copy : PacketCopy) → o ≡ Some copy → IsKnownCopy a b numbers copy) → AllByRecursion (IsAmong numbers) (replies_told a b (copy_told o))
copy_known a b numbers None known = tt
copy_known a b numbers (Some copy) known = told_known numbers copy.tx.0 (copy.reply && same_pair a b copy.from copy.to) (known copy refl)

firing_known : (a b : ℕ) (numbers : List ℕ) (tx : TxNo) (o : Option Call) → AllByRecursion (IsAmong numbers) (replies_told a b (firing_told tx o))
firing_known a b numbers tx None = tt
firing_known a b numbers tx (Some call) = tt

act_known : (a b : ℕ) (numbers : List ℕ) (machine : Machine) (act : Act) → Known a b numbers machine → AllByRecursion (IsAmong numbers) (replies_told a b (told_by machine act))
act_known a b numbers machine (Begin from port servers owner body tries about before sent) h = tt
act_known a b numbers machine (Deliver number given) h = copy_known a b numbers (copy_of machine number) (λ copy found. found_copy (IsKnownCopy a b numbers) (is_copy number) copy machine.copies h.copies found)
act_known a b numbers machine (Answer tx body given) h = tt
act_known a b numbers machine (Silence tx at) h = tt
act_known a b numbers machine (Expire tx sent) h = firing_known a b numbers tx (call_of machine tx)

-- and of a run
replies_on : (a b : ℕ) (xs ys : List Rec) → replies_told a b (xs ++ ys) ≡ replies_told a b xs ++ replies_told a b ys
replies_on a b [] ys = refl
replies_on a b (r ∷ xs) ys = ap (λ (ns : List ℕ). reply_told a b r.kernel r.event ++ ns) (replies_on a b xs ys) ∙ sym (append_assoc (reply_told a b r.kernel r.event) (replies_told a b xs) (replies_told a b ys))

run_known : (a b : ℕ) (numbers : List ℕ) (steps : List (Act × Counts)) (machine : Machine) → AllByRecursion (IsAmong numbers) (told_of (answered_by a b) machine steps) → Known a b numbers machine → AllByRecursion (IsAmong numbers) (replies_told a b (told_of told_by machine steps))
run_known a b numbers [] machine named h = tt
run_known a b numbers (step ∷ steps) machine named h =
    let parts = each_of_append (IsAmong numbers) (answered_by a b machine step.0) (told_of (answered_by a b) (after machine step.0) steps) named in
    let rest = run_known a b numbers steps (after machine step.0) parts.1 (known_after a b numbers machine step.0 parts.0 h) in
    subst (AllByRecursion (IsAmong numbers)) (sym (replies_on a b (told_by machine step.0) (told_of told_by (after machine step.0) steps))) (each_append (IsAmong numbers) (replies_told a b (told_by machine step.0)) (replies_told a b (told_of told_by (after machine step.0) steps)) (act_known a b numbers machine step.0 h) rest)

-- so there are no more such calls than are answered
pub replied_were_answered : (a b : ℕ) (steps : List (Act × Counts)) → calls_replied a b (told_of told_by idle steps) ≤ times (answers_between a b) idle steps
replied_were_answered a b steps =
    (let numbers = told_of (answered_by a b) idle steps in
    let known = run_known a b numbers steps idle (each_among numbers) (record { numbered = omega arith; calls = tt; copies = tt }) in
    let few = few_differ (replies_told a b (told_of told_by idle steps)) numbers known in
    let count = run_numbers a b steps idle in omega arith)
