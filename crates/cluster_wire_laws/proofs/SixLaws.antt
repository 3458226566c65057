-- The copies of a call's packets that a trace tells of.
use Rattle.std.proofs.Common.{arith, ◌≡◌, ℕ, ◌+◌, ◌*◌, ◌≤◌, ◌==◌, Bool, true, false, ◌&&◌, not, cond, List, [], ◌∷◌, Option, Some, None, refl, ap, subst}
use Rattle.std.proofs.lemmas.Bool.{eqb-true}
use Rattle.std.proofs.lemmas.Bool.Decides.{nat_tests}
use Rattle.sprite_ids.specs.declared.TxNo.{TxNo}
use Rattle.link_plan.specs.declared.Fate.{Fate}
use Rattle.kernel_rpc.specs.declared.Call.{Call}
use Rattle.kernel_rpc.specs.declared.PacketCopy.{PacketCopy}
use Rattle.kernel_rpc.specs.Histories.{brings, is_reply_for, is_request_of, passes, sends, times}
use Rattle.kernel_rpc.specs.Machine.{Machine, call_of, copy_of, gave_up, idle, is_last, resent}
use Rattle.kernel_rpc.specs.Runs.{Act, Begin, Deliver, Answer, Silence, Expire, Counts, IsRun, after, expired_by, once_if}
use Rattle.kernel_rpc.specs.Steps.{counts_in}
use Rattle.kernel_rpc.proofs.ComeLaws.{two_requests_each}
use Rattle.kernel_rpc.proofs.OwnerLaws.{four_replies_each}
use Rattle.kernel_rpc.proofs.RunLaws.{unfinished_replied}
use Rattle.kernel_rpc.proofs.TryLaws.{delivered_begun}
use Rattle.cluster_wire_laws.specs.Told.{is_copy_at, sends_again}
use Rattle.cluster_wire_laws.specs.Traces.{SixCopiesEach}
use Rattle.cluster_wire_laws.proofs.TallyLaws.{agains_so, copies_so}

-- whether the call of that number begins
abbrev pub begins : ℕ → Machine → Act → Bool
begins tx machine (Begin from port servers owner body tries about before sent) = machine.begun + 1 == tx
begins tx machine (Deliver number given) = false
begins tx machine (Answer key body given) = false
begins tx machine (Silence key at) = false
begins tx machine (Expire key sent) = false

-- calls that were begun stay so
pub expired_begun : (o : Option Call) (key : TxNo) (sent : List (ℕ × Fate)) (machine : Machine) → (expired_by key o sent machine).begun ≡ machine.begun
expired_begun None key sent machine = refl
expired_begun (Some call) key sent machine = elim (is_last call) as (λ b. (cond b (gave_up key machine) (resent key (Some call) sent machine)).begun ≡ machine.begun) [ true ↦ refl | false ↦ refl ]

pub begun_grows : (machine : Machine) (act : Act) → machine.begun ≤ (after machine act).begun
begun_grows machine (Begin from port servers owner body tries about before sent) = omega arith
begun_grows machine (Deliver number given) = (let same = delivered_begun (copy_of machine number) given machine in omega arith)
begun_grows machine (Answer key body given) = (let same = (unfinished_replied (call_of machine key) given machine).1 in omega arith)
begun_grows machine (Silence key at) = omega arith
begun_grows machine (Expire key sent) = (let same = expired_begun (call_of machine key) key sent machine in omega arith)

-- so a call begins once at most
late_begin : (tx : ℕ) (machine : Machine) (act : Act) → tx ≤ machine.begun → once_if (begins tx machine act) ≡ 0
late_begin tx machine (Begin from port servers owner body tries about before sent) late = (let apart : (machine.begun + 1 == tx) ≡ false = grind (arith, nat_tests) in ap once_if apart)
late_begin tx machine (Deliver number given) late = refl
late_begin tx machine (Answer key body given) late = refl
late_begin tx machine (Silence key at) late = refl
late_begin tx machine (Expire key sent) late = refl

begun_there : (tx : ℕ) (machine : Machine) (act : Act) → begins tx machine act ≡ true → tx ≤ (after machine act).begun
begun_there tx machine (Begin from port servers owner body tries about before sent) is = (let same = eqb-true (machine.begun + 1) tx is in omega arith)
begun_there tx machine (Deliver number given) is = absurd (cc)
begun_there tx machine (Answer key body given) is = absurd (cc)
begun_there tx machine (Silence key at) is = absurd (cc)
begun_there tx machine (Expire key sent) is = absurd (cc)

none_begins : (tx : ℕ) (steps : List (Act × Counts)) (machine : Machine) → tx ≤ machine.begun → times (begins tx) machine steps ≡ 0
none_begins tx [] machine late = refl
none_begins tx (step ∷ steps) machine late =
    (let here = late_begin tx machine step.0 late in
    let grown = begun_grows machine step.0 in
    let rest = none_begins tx steps (after machine step.0) (omega arith) in omega arith)

pub once_begins : (tx : ℕ) (steps : List (Act × Counts)) (machine : Machine) → times (begins tx) machine steps ≤ 1
once_begins tx [] machine = omega arith
once_begins tx (step ∷ steps) machine = by_first (begins tx machine step.0) refl (once_begins tx steps (after machine step.0))
  where
    by_first : (b : Bool) → begins tx machine step.0 ≡ b → times (begins tx) (after machine step.0) steps ≤ 1 → once_if b + times (begins tx) (after machine step.0) steps ≤ 1
    by_first true is rest = (let none = none_begins tx steps (after machine step.0) (begun_there tx machine step.0 is) in omega arith)
    by_first false is rest = omega arith

-- a request is sent as its call begins, and by its timer
act_sends : (tx : ℕ) (machine : Machine) (act : Act) → once_if (sends tx machine act) ≡ once_if (begins tx machine act) + once_if (sends_again tx machine act)
act_sends tx machine (Begin from port servers owner body tries about before sent) = omega arith
act_sends tx machine (Deliver number given) = refl
act_sends tx machine (Answer key body given) = refl
act_sends tx machine (Silence key at) = refl
act_sends tx machine (Expire key sent) = omega arith

run_sends : (tx : ℕ) (steps : List (Act × Counts)) (machine : Machine) → times (sends tx) machine steps ≡ times (begins tx) machine steps + times (sends_again tx) machine steps
run_sends tx [] machine = refl
run_sends tx (step ∷ steps) machine = (let here = act_sends tx machine step.0 in let rest = run_sends tx steps (after machine step.0) in omega arith)

-- a copy is one of the request or of the reply
either_copy : (a r k : Bool) → once_if (a && k) ≤ once_if (a && (not r && k)) + once_if (a && r)
either_copy true true true = omega arith
either_copy true true false = omega arith
either_copy true false true = omega arith
either_copy true false false = omega arith
either_copy false r k = omega arith

-- where a copy that passes a test is one of the two
abbrev pub IsEither : ℕ → ℕ → (PacketCopy → Bool) → Type 0
IsEither tx at p = (copy : PacketCopy) → once_if (p copy) ≤ once_if (is_request_of tx at copy) + once_if (is_reply_for tx copy)

copy_either : (tx at : ℕ) (p : PacketCopy → Bool) (o : Option PacketCopy) → IsEither tx at p → once_if (passes p o) ≤ once_if (passes (is_request_of tx at) o) + once_if (passes (is_reply_for tx) o)
copy_either tx at p None either = omega arith
copy_either tx at p (Some copy) either = either copy

act_brings : (tx at : ℕ) (p : PacketCopy → Bool) (machine : Machine) (act : Act) → IsEither tx at p → once_if (brings p machine act) ≤ once_if (brings (is_request_of tx at) machine act) + once_if (brings (is_reply_for tx) machine act)
act_brings tx at p machine (Begin from port servers owner body tries about before sent) either = omega arith
act_brings tx at p machine (Deliver number given) either = copy_either tx at p (copy_of machine number) either
act_brings tx at p machine (Answer key body given) either = omega arith
act_brings tx at p machine (Silence key kernel) either = omega arith
act_brings tx at p machine (Expire key sent) either = omega arith

run_brings : (tx at : ℕ) (p : PacketCopy → Bool) (steps : List (Act × Counts)) (machine : Machine) → IsEither tx at p → times (brings p) machine steps ≤ times (brings (is_request_of tx at)) machine steps + times (brings (is_reply_for tx)) machine steps
run_brings tx at p [] machine either = omega arith
run_brings tx at p (step ∷ steps) machine either = (let here = act_brings tx at p machine step.0 either in let rest = run_brings tx at p steps (after machine step.0) either in omega arith)

-- six for each time that the request was sent
pub six_of : (tx at : ℕ) (p : PacketCopy → Bool) (counts : Counts) (steps : List (Act × Counts)) → IsEither tx at p → IsRun idle counts steps → times (brings p) idle steps ≤ 6 * (1 + times (sends_again tx) idle steps)
six_of tx at p counts steps either run =
    (let requests = two_requests_each counts steps tx at run in
    let replies = four_replies_each counts steps tx run in
    let both = run_brings tx at p steps idle either in
    let sent = run_sends tx steps idle in
    let once = once_begins tx steps idle in omega arith)

pub six_copies : {L : Type 0} (faults asked : L → ℕ → ℕ → ℕ) → SixCopiesEach faults asked
six_copies faults asked begun wire trace tx at reached =
    (let counts = counts_in faults asked reached.first.link in
    let run : IsRun idle counts reached.steps = subst (λ (machine : Machine). IsRun machine counts reached.steps) reached.idles reached.ran.run in
    let copies = copies_so tx at trace reached.steps idle reached.in_order in
    let again = agains_so tx trace reached.steps idle reached.in_order in
    let six = six_of tx at (is_copy_at tx at) counts reached.steps (λ copy. either_copy (copy.tx.0 == tx) copy.reply (copy.to == at)) run in omega arith)
