-- The reply of a call is sent at most once for each copy of the request that comes to its owner.
use Rattle.std.proofs.Common.{arith, ◌≡◌, ℕ, ◌+◌, ◌<◌, ◌≤◌, ◌==◌, Bool, true, false, ◌&&◌, not, cond, List, [], ◌∷◌, ◌++◌, map, Option, Some, None, option_map, refl, sym, ap, subst, ◌∙◌}
use Rattle.std.specs.List.{AllByRecursion, find, list_any}
use Rattle.std.proofs.lemmas.Bool.Decides.{nat_tests}
use Rattle.std.proofs.lemmas.Bool.{eqb-true}
use Rattle.sprite_ids.specs.declared.TxNo.{TxNo}
use Rattle.sprite_ids.specs.Lists.{changed}
use Rattle.sprite_ids.proofs.ListLaws.{each_push, some_is}
use Rattle.link_plan.specs.declared.Fate.{Fate}
use Rattle.kernel_rpc.specs.declared.call.Part.{Part}
use Rattle.kernel_rpc.specs.declared.call.Part.TheVariants.{Holding, Silent, Answered}
use Rattle.kernel_rpc.specs.declared.call.Arrival.{Arrival}
use Rattle.kernel_rpc.specs.declared.call.Arrival.TheVariants.{FirstRequest, FirstReply, AskedAgain, Past}
use Rattle.kernel_rpc.specs.declared.call.Call.{Call}
use Rattle.kernel_rpc.specs.declared.call.PacketCopy.{PacketCopy}
use Rattle.kernel_rpc.specs.declared.call.Receiver.{Receiver}
use Rattle.kernel_rpc.specs.Machine.{Machine, answered, arrival, call_of, copy_of, delivered_as, fresh, further, gave_up, holds, idle, is_at, is_call, is_holding, is_last, landed, new_call, part_of, replied, resent, tried, with_part}
use Rattle.kernel_rpc.specs.Runs.{Act, Begin, Deliver, Answer, Silence, Expire, Counts, IsRun, MayAct, after, delivered_by, expired_by, once_if}
use Rattle.kernel_rpc.specs.Histories.{FourRepliesEach, brings, is_asked_again, is_request_of, passes, replies, replies_again, times}
use Rattle.kernel_rpc.proofs.ArrivalLaws.{asked_of, first_request}
use Rattle.kernel_rpc.proofs.BeginLaws.{may_answer_held}
use Rattle.kernel_rpc.proofs.ComeLaws.{two_replies_each, two_requests_each}
use Rattle.kernel_rpc.proofs.CopyLaws.{each_without}
use Rattle.kernel_rpc.proofs.PartLaws.{none_holds, part_stays}
use Rattle.kernel_rpc.proofs.RunLaws.{Ordered, left_bound, left_changed, left_dropped, left_found, left_of, left_spent, not_then, ordered_after, unfinished_replied}
use Rattle.kernel_rpc.proofs.SoundLaws.{found_is, found_sound}
use Rattle.kernel_rpc.proofs.TryLaws.{delivered_begun, each_kept}

-- one where the kernel holds the call's request
abbrev held_by : ℕ → Call → ℕ
held_by kernel call = once_if (holds (part_of kernel call.receivers))

held_most : (kernel : ℕ) (call : Call) → held_by kernel call ≤ 1
held_most kernel call = elim (holds (part_of kernel call.receivers)) as (λ b. once_if b ≤ 1) [ true ↦ omega arith | false ↦ omega arith ]

none_taken : (servers : List ℕ) → list_any (λ (receiver : Receiver). is_holding receiver.part) (map fresh servers) ≡ false
none_taken [] = refl
none_taken (server ∷ servers) = none_taken servers

-- nobody holds a new call
new_free : (kernel : ℕ) (servers : List ℕ) → once_if (holds (part_of kernel (map fresh servers))) ≡ 0
new_free kernel servers = ap once_if (none_holds kernel (map fresh servers) (none_taken servers))

left_new : (left : Call → ℕ) (tx : ℕ) (new : Call) → left new ≡ 0 → (calls : List Call) → left_of left tx (calls ++ new ∷ []) ≡ left_of left tx calls
left_new left tx new none [] = elim (new.tx.0 == tx) as (λ b. cond b (left new) 0 ≡ 0) [ true ↦ none | false ↦ refl ]
left_new left tx new none (call ∷ calls) = ap (cond (call.tx.0 == tx) (left call)) (left_new left tx new none calls)

other_by : (left : Call → ℕ) (tx : ℕ) (key : TxNo) (f : Call → Call) (call : Call) (calls : List Call) → ((call : Call) → (f call).tx ≡ call.tx) → (key.0 == tx) ≡ false → left_of left tx (changed (is_call key) f calls) ≡ left_of left tx calls → (b : Bool) → (call.tx.0 == key.0) ≡ b → left_of left tx (cond b (f call ∷ calls) (call ∷ changed (is_call key) f calls)) ≡ left_of left tx (call ∷ calls)
other_by left tx key f call calls same apart later true is =
    let old : (call.tx.0 == tx) ≡ false = subst (λ n. (n == tx) ≡ false) (sym (eqb-true call.tx.0 key.0 is)) apart in
    let new : ((f call).tx.0 == tx) ≡ false = ap (λ (number : TxNo). number.0 == tx) (same call) ∙ old in
    ap (λ b. cond b (left (f call)) (left_of left tx calls)) new ∙ sym (ap (λ b. cond b (left call) (left_of left tx calls)) old)
other_by left tx key f call calls same apart later false is = ap (cond (call.tx.0 == tx) (left call)) later

-- a change of another call
left_other : (left : Call → ℕ) (tx : ℕ) (key : TxNo) (f : Call → Call) → ((call : Call) → (f call).tx ≡ call.tx) → (key.0 == tx) ≡ false → (calls : List Call) → left_of left tx (changed (is_call key) f calls) ≡ left_of left tx calls
left_other left tx key f same apart [] = refl
left_other left tx key f same apart (call ∷ calls) = other_by left tx key f call calls same apart (left_other left tx key f same apart calls) (call.tx.0 == key.0) refl

free_by : (at : ℕ) (part : Part) (first : Receiver) (rest : List Receiver) → is_holding part ≡ false → holds (part_of at (with_part at part rest)) ≡ false → (b : Bool) → (first.kernel == at) ≡ b → holds (part_of at (cond b (record first { part = part } ∷ rest) (first ∷ with_part at part rest))) ≡ false
free_by at part first rest none later true is = ap (λ b. holds (option_map (λ (receiver : Receiver). receiver.part) (cond b (Some (record first { part = part })) (find (is_at at) rest)))) is ∙ none
free_by at part first rest none later false is = ap (λ b. holds (option_map (λ (receiver : Receiver). receiver.part) (cond b (Some first) (find (is_at at) (with_part at part rest))))) is ∙ later

-- a receiver that doesn't hold the request
free_at : (at : ℕ) (part : Part) → is_holding part ≡ false → (receivers : List Receiver) → holds (part_of at (with_part at part receivers)) ≡ false
free_at at part none [] = refl
free_at at part none (first ∷ rest) = free_by at part first rest none (free_at at part none rest) (first.kernel == at) refl

held_less_by : (at kernel : ℕ) (part : Part) (call : Call) → is_holding part ≡ false → (b : Bool) → (at == kernel) ≡ b → held_by kernel (further at part call) ≤ held_by kernel call
held_less_by at kernel part call none true is =
    let free : once_if (holds (part_of kernel (with_part at part call.receivers))) ≡ 0 = ap once_if (subst (λ n. holds (part_of n (with_part at part call.receivers)) ≡ false) (eqb-true at kernel is) (free_at at part none call.receivers)) in
    omega arith
held_less_by at kernel part call none false is = (let same = ap (λ part. once_if (holds part)) (part_stays at kernel part call.receivers is) in omega arith)

held_less : (at kernel : ℕ) (part : Part) → is_holding part ≡ false → (call : Call) → held_by kernel (further at part call) ≤ held_by kernel call
held_less at kernel part none call = held_less_by at kernel part call none (at == kernel) refl

-- where the receiver has answered, it is the owner
abbrev pub IsOwners : ℕ → Receiver → Type 0
IsOwners owner receiver = receiver.part ≡ Answered → receiver.kernel ≡ owner

-- the kernel is the owner of the call, where that has the number; and only the owner of a call has answered
abbrev Owns : ℕ → ℕ → Call → Type 0
Owns tx kernel call = (call.tx.0 ≡ tx → call.owner ≡ kernel) × AllByRecursion (IsOwners call.owner) call.receivers

pub fresh_owners : (owner : ℕ) (servers : List ℕ) → AllByRecursion (IsOwners owner) (map fresh servers)
fresh_owners owner [] = tt
fresh_owners owner (server ∷ servers) = (λ e. absurd (cc), fresh_owners owner servers)

owners_by : (owner at : ℕ) (part : Part) (first : Receiver) (rest : List Receiver) → (part ≡ Answered → at ≡ owner) → IsOwners owner first → AllByRecursion (IsOwners owner) rest → AllByRecursion (IsOwners owner) (with_part at part rest) → (b : Bool) → (first.kernel == at) ≡ b → AllByRecursion (IsOwners owner) (cond b (record first { part = part } ∷ rest) (first ∷ with_part at part rest))
owners_by owner at part first rest may here others later true is = (λ e. eqb-true first.kernel at is ∙ may e, others)
owners_by owner at part first rest may here others later false is = (here, later)

pub owners_with : (owner at : ℕ) (part : Part) → (part ≡ Answered → at ≡ owner) → (receivers : List Receiver) → AllByRecursion (IsOwners owner) receivers → AllByRecursion (IsOwners owner) (with_part at part receivers)
owners_with owner at part may [] h = tt
owners_with owner at part may (first ∷ rest) h = owners_by owner at part first rest may h.0 h.1 (owners_with owner at part may rest h.1) (first.kernel == at) refl

owner_by : (owner kernel : ℕ) (first : Receiver) (rest : Option Receiver) → IsOwners owner first → (option_map (λ (receiver : Receiver). receiver.part) rest ≡ Some Answered → kernel ≡ owner) → (b : Bool) → (first.kernel == kernel) ≡ b → option_map (λ (receiver : Receiver). receiver.part) (cond b (Some first) rest) ≡ Some Answered → kernel ≡ owner
owner_by owner kernel first rest here later true is e = sym (eqb-true first.kernel kernel is) ∙ here (some_is first.part Answered e)
owner_by owner kernel first rest here later false is e = later e

-- who has answered is the owner
pub owner_is : (owner kernel : ℕ) (receivers : List Receiver) → AllByRecursion (IsOwners owner) receivers → part_of kernel receivers ≡ Some Answered → kernel ≡ owner
owner_is owner kernel [] h e = absurd (cc)
owner_is owner kernel (first ∷ rest) h e = owner_by owner kernel first (find (is_at kernel) rest) h.0 (owner_is owner kernel rest h.1) (first.kernel == kernel) refl e

owns_further : (tx kernel at : ℕ) (part : Part) (call : Call) → (part ≡ Answered → at ≡ call.owner) → Owns tx kernel call → (call.tx.0 ≡ tx → call.owner ≡ kernel) × AllByRecursion (IsOwners call.owner) (with_part at part call.receivers)
owns_further tx kernel at part call may h = (h.0, owners_with call.owner at part may call.receivers h.1)

owns_arrived : (tx kernel : ℕ) (a : Arrival) (copy : PacketCopy) (given : Fate) (machine : Machine) → AllByRecursion (Owns tx kernel) machine.unfinished → AllByRecursion (Owns tx kernel) (delivered_as a copy given (landed copy machine)).unfinished
owns_arrived tx kernel FirstRequest copy given machine h = each_kept (Owns tx kernel) (is_call copy.tx) (further copy.to Holding) (λ call k. owns_further tx kernel copy.to Holding call (λ e. absurd (cc)) k) machine.unfinished h
owns_arrived tx kernel FirstReply copy given machine h = each_without (Owns tx kernel) (is_call copy.tx) machine.unfinished h
owns_arrived tx kernel AskedAgain copy given machine h = subst (AllByRecursion (Owns tx kernel)) (sym (unfinished_replied (call_of (landed copy machine) copy.tx) given (landed copy machine)).0) h
owns_arrived tx kernel Past copy given machine h = h

owns_delivered : (tx kernel : ℕ) (o : Option PacketCopy) (given : Fate) (machine : Machine) → AllByRecursion (Owns tx kernel) machine.unfinished → AllByRecursion (Owns tx kernel) (delivered_by o given machine).unfinished
owns_delivered tx kernel None given machine h = h
owns_delivered tx kernel (Some copy) given machine h = owns_arrived tx kernel (arrival machine copy) copy given machine h

owns_answered : (tx kernel : ℕ) (o : Option Call) (key : TxNo) (body : List ℕ) (given : Fate) (machine : Machine) → AllByRecursion (Owns tx kernel) machine.unfinished → AllByRecursion (Owns tx kernel) (changed (is_call key) (answered body) (replied o given machine).unfinished)
owns_answered tx kernel None key body given machine h = each_kept (Owns tx kernel) (is_call key) (answered body) (λ call k. owns_further tx kernel call.owner Answered call (λ e. refl) k) machine.unfinished h
owns_answered tx kernel (Some call) key body given machine h = each_kept (Owns tx kernel) (is_call key) (answered body) (λ call k. owns_further tx kernel call.owner Answered call (λ e. refl) k) machine.unfinished h

owns_expired : (tx kernel : ℕ) (o : Option Call) (key : TxNo) (sent : List (ℕ × Fate)) (machine : Machine) → AllByRecursion (Owns tx kernel) machine.unfinished → AllByRecursion (Owns tx kernel) (expired_by key o sent machine).unfinished
owns_expired tx kernel None key sent machine h = h
owns_expired tx kernel (Some call) key sent machine h = elim (is_last call) as (λ b. AllByRecursion (Owns tx kernel) (cond b (gave_up key machine) (resent key (Some call) sent machine)).unfinished) [ true ↦ each_without (Owns tx kernel) (is_call key) machine.unfinished h | false ↦ each_kept (Owns tx kernel) (is_call key) tried (λ call k. k) machine.unfinished h ]

-- the owner of the call of that number, where it begins in this act; else another one
abbrev owner_by_act : ℕ → Machine → Act → ℕ → ℕ
owner_by_act tx machine (Begin from port servers owner body tries about before sent) later = cond (machine.begun + 1 == tx) owner later
owner_by_act tx machine (Deliver number given) later = later
owner_by_act tx machine (Answer key body given) later = later
owner_by_act tx machine (Silence key at) later = later
owner_by_act tx machine (Expire key sent) later = later

-- the owner of the call of that number, where it begins in the run
abbrev owner_in : ℕ → Machine → List (Act × Counts) → ℕ
owner_in tx machine [] = 0
owner_in tx machine (first ∷ rest) = owner_by_act tx machine first.0 (owner_in tx (after machine first.0) rest)

-- the call that begins is that kernel's
owner_begun : (tx kernel begun owner later : ℕ) → (begun < tx → cond (begun + 1 == tx) owner later ≡ kernel) → begun + 1 ≡ tx → owner ≡ kernel
owner_begun tx kernel begun owner later named now =
    let here : (begun + 1 == tx) ≡ true = grind (arith, nat_tests) in
    sym (ap (λ b. cond b owner later) here) ∙ named (omega arith)

owns_after : (tx kernel later : ℕ) (machine : Machine) (act : Act) → (machine.begun < tx → owner_by_act tx machine act later ≡ kernel) → AllByRecursion (Owns tx kernel) machine.unfinished → AllByRecursion (Owns tx kernel) (after machine act).unfinished
owns_after tx kernel later machine (Begin from port servers owner body tries about before sent) named h = each_push (Owns tx kernel) machine.unfinished (new_call machine from port servers owner body tries about before) h (owner_begun tx kernel machine.begun owner later named, fresh_owners owner servers)
owns_after tx kernel later machine (Deliver number given) named h = owns_delivered tx kernel (copy_of machine number) given machine h
owns_after tx kernel later machine (Answer key body given) named h = owns_answered tx kernel (call_of machine key) key body given machine h
owns_after tx kernel later machine (Silence key at) named h = each_kept (Owns tx kernel) (is_call key) (further at Silent) (λ call k. owns_further tx kernel at Silent call (λ e. absurd (cc)) k) machine.unfinished h
owns_after tx kernel later machine (Expire key sent) named h = owns_expired tx kernel (call_of machine key) key sent machine h

expired_begun : (o : Option Call) (key : TxNo) (sent : List (ℕ × Fate)) (machine : Machine) → (expired_by key o sent machine).begun ≡ machine.begun
expired_begun None key sent machine = refl
expired_begun (Some call) key sent machine = elim (is_last call) as (λ b. (cond b (gave_up key machine) (resent key (Some call) sent machine)).begun ≡ machine.begun) [ true ↦ refl | false ↦ refl ]

named_begun : (tx kernel begun owner later : ℕ) → (begun < tx → cond (begun + 1 == tx) owner later ≡ kernel) → begun + 1 < tx → later ≡ kernel
named_begun tx kernel begun owner later named past =
    let apart : (begun + 1 == tx) ≡ false = grind (arith, nat_tests) in
    sym (ap (λ b. cond b owner later) apart) ∙ named (omega arith)

named_same : (tx kernel later old new : ℕ) → new ≡ old → (old < tx → later ≡ kernel) → new < tx → later ≡ kernel
named_same tx kernel later old new same named past = named (omega arith)

named_after : (tx kernel later : ℕ) (machine : Machine) (act : Act) → (machine.begun < tx → owner_by_act tx machine act later ≡ kernel) → (after machine act).begun < tx → later ≡ kernel
named_after tx kernel later machine (Begin from port servers owner body tries about before sent) named = named_begun tx kernel machine.begun owner later named
named_after tx kernel later machine (Deliver number given) named = named_same tx kernel later machine.begun (delivered_by (copy_of machine number) given machine).begun (delivered_begun (copy_of machine number) given machine) named
named_after tx kernel later machine (Answer key body given) named = named_same tx kernel later machine.begun (replied (call_of machine key) given machine).begun (unfinished_replied (call_of machine key) given machine).1 named
named_after tx kernel later machine (Silence key at) named = named
named_after tx kernel later machine (Expire key sent) named = named_same tx kernel later machine.begun (expired_by key (call_of machine key) sent machine).begun (expired_begun (call_of machine key) key sent machine) named

-- a first request to the owner gives it the call
taken_by : (tx kernel : ℕ) (copy : PacketCopy) (calls : List Call) → copy.reply ≡ false → (a b : Bool) → (copy.tx.0 == tx) ≡ a → (copy.to == kernel) ≡ b → left_of (held_by kernel) tx (changed (is_call copy.tx) (further copy.to Holding) calls) ≤ left_of (held_by kernel) tx calls + once_if (a && (not copy.reply && b))
taken_by tx kernel copy calls asks true true e k =
    let most = left_bound (held_by kernel) tx (held_most kernel) (changed (is_call copy.tx) (further copy.to Holding) calls) in
    let one : once_if (not copy.reply && true) ≡ 1 = ap (λ b. once_if (not b && true)) asks in
    omega arith
taken_by tx kernel copy calls asks true false e k =
    let fewer = left_changed (held_by kernel) tx (is_call copy.tx) (further copy.to Holding) (λ call. refl) (λ call. (let same = ap (λ part. once_if (holds part)) (part_stays copy.to kernel Holding call.receivers k) in omega arith)) calls in
    omega arith
taken_by tx kernel copy calls asks false b e k = (let same = left_other (held_by kernel) tx copy.tx (further copy.to Holding) (λ call. refl) e calls in omega arith)

-- a request that has the reply sent again is one to the owner
again_by : (tx kernel : ℕ) (copy : PacketCopy) (call : Call) → call.tx.0 ≡ copy.tx.0 → copy.reply ≡ false → copy.to ≡ call.owner → (call.tx.0 ≡ tx → call.owner ≡ kernel) → (a : Bool) → (copy.tx.0 == tx) ≡ a → once_if (a && true) ≤ once_if (a && (not copy.reply && (copy.to == kernel)))
again_by tx kernel copy call number asks to owns true e =
    let here : copy.to ≡ kernel = to ∙ owns (number ∙ eqb-true copy.tx.0 tx e) in
    let there : (copy.to == kernel) ≡ true = grind (arith, nat_tests) in
    let one : once_if (not copy.reply && (copy.to == kernel)) ≡ 1 = ap (λ b. once_if (not b && (copy.to == kernel))) asks ∙ ap once_if there in
    omega arith
again_by tx kernel copy call number asks to owns false e = omega arith

owner_arrived : (a : Arrival) (tx kernel : ℕ) (copy : PacketCopy) (given : Fate) (machine : Machine) → Ordered machine → AllByRecursion (Owns tx kernel) machine.unfinished → arrival machine copy ≡ a → once_if ((copy.tx.0 == tx) && is_asked_again a) + left_of (held_by kernel) tx (delivered_as a copy given (landed copy machine)).unfinished ≤ left_of (held_by kernel) tx machine.unfinished + once_if (is_request_of tx kernel copy)
owner_arrived FirstRequest tx kernel copy given machine h owns is =
    let first = first_request copy (call_of machine copy.tx) is in
    let taken = taken_by tx kernel copy machine.unfinished first.2 (copy.tx.0 == tx) (copy.to == kernel) refl refl in
    let none = not_then (copy.tx.0 == tx) false refl in
    omega arith
owner_arrived FirstReply tx kernel copy given machine h owns is =
    let fewer = left_dropped (held_by kernel) tx (is_call copy.tx) 0 machine.begun machine.unfinished h in
    let none = not_then (copy.tx.0 == tx) false refl in
    omega arith
owner_arrived AskedAgain tx kernel copy given machine h owns is =
    let asked = asked_of copy (call_of machine copy.tx) is in
    let call = asked.0 in
    let own = found_sound (Owns tx kernel) (is_call copy.tx) call machine.unfinished asked.1 owns in
    let number = eqb-true call.tx.0 copy.tx.0 (found_is copy.tx call machine.unfinished asked.1) in
    let to = owner_is call.owner copy.to call.receivers own.1 asked.3 in
    let one = again_by tx kernel copy call number asked.2 to own.0 (copy.tx.0 == tx) refl in
    let same = ap (left_of (held_by kernel) tx) (unfinished_replied (call_of (landed copy machine) copy.tx) given (landed copy machine)).0 in
    omega arith
owner_arrived Past tx kernel copy given machine h owns is = (let none = not_then (copy.tx.0 == tx) false refl in omega arith)

owner_delivered : (o : Option PacketCopy) (tx kernel : ℕ) (given : Fate) (machine : Machine) → Ordered machine → AllByRecursion (Owns tx kernel) machine.unfinished → once_if (replies_again tx machine o) + left_of (held_by kernel) tx (delivered_by o given machine).unfinished ≤ left_of (held_by kernel) tx machine.unfinished + once_if (passes (is_request_of tx kernel) o)
owner_delivered None tx kernel given machine h owns = omega arith
owner_delivered (Some copy) tx kernel given machine h owns = owner_arrived (arrival machine copy) tx kernel copy given machine h owns refl

-- the owner that answers had the call
answered_here : (kernel : ℕ) (key : TxNo) (call : Call) (body : List ℕ) (calls : List Call) → find (is_call key) calls ≡ Some call → part_of call.owner call.receivers ≡ Some Holding → call.owner ≡ kernel → 1 + left_of (held_by kernel) key.0 (changed (is_call key) (answered body) calls) ≤ left_of (held_by kernel) key.0 calls
answered_here kernel key call body calls found part owner =
    let one : held_by kernel call ≡ 1 = subst (λ n. once_if (holds (part_of n call.receivers)) ≡ 1) owner (ap (λ part. once_if (holds part)) part) in
    let had = left_found (held_by kernel) key.0 call calls found in
    let free : held_by kernel (answered body call) ≡ 0 = subst (λ n. once_if (holds (part_of n (with_part call.owner Answered call.receivers))) ≡ 0) owner (ap once_if (free_at call.owner Answered refl call.receivers)) in
    let none = left_spent (held_by kernel) key.0 (answered body) call (λ call. refl) free calls found in
    omega arith

answered_by : (tx kernel : ℕ) (key : TxNo) (call : Call) (body : List ℕ) (calls : List Call) → find (is_call key) calls ≡ Some call → part_of call.owner call.receivers ≡ Some Holding → (call.tx.0 ≡ tx → call.owner ≡ kernel) → (b : Bool) → (key.0 == tx) ≡ b → once_if b + left_of (held_by kernel) tx (changed (is_call key) (answered body) calls) ≤ left_of (held_by kernel) tx calls
answered_by tx kernel key call body calls found part owns true e =
    let number = eqb-true call.tx.0 key.0 (found_is key call calls found) in
    let same = eqb-true key.0 tx e in
    subst (λ n. 1 + left_of (held_by kernel) n (changed (is_call key) (answered body) calls) ≤ left_of (held_by kernel) n calls) same (answered_here kernel key call body calls found part (owns (number ∙ same)))
answered_by tx kernel key call body calls found part owns false e = (let same = left_other (held_by kernel) tx key (answered body) (λ call. refl) e calls in omega arith)

owner_expired : (o : Option Call) (tx kernel : ℕ) (key : TxNo) (sent : List (ℕ × Fate)) (machine : Machine) → Ordered machine → left_of (held_by kernel) tx (expired_by key o sent machine).unfinished ≤ left_of (held_by kernel) tx machine.unfinished
owner_expired None tx kernel key sent machine h = omega arith
owner_expired (Some call) tx kernel key sent machine h =
    elim (is_last call) as (λ b. left_of (held_by kernel) tx (cond b (gave_up key machine) (resent key (Some call) sent machine)).unfinished ≤ left_of (held_by kernel) tx machine.unfinished) [ true ↦ left_dropped (held_by kernel) tx (is_call key) 0 machine.begun machine.unfinished h | false ↦ left_changed (held_by kernel) tx (is_call key) tried (λ call. refl) (λ call. omega arith) machine.unfinished ]

-- the reply that is sent was left to the owner, or a request comes to it
owner_step : (tx kernel : ℕ) (machine : Machine) (old : Counts) (act : Act) (new : Counts) → MayAct machine old act new → Ordered machine → AllByRecursion (Owns tx kernel) machine.unfinished → once_if (replies tx machine act) + left_of (held_by kernel) tx (after machine act).unfinished ≤ left_of (held_by kernel) tx machine.unfinished + once_if (brings (is_request_of tx kernel) machine act)
owner_step tx kernel machine old (Begin from port servers owner body tries about before sent) new may h owns = (let same = left_new (held_by kernel) tx (new_call machine from port servers owner body tries about before) (new_free kernel servers) machine.unfinished in omega arith)
owner_step tx kernel machine old (Deliver number given) new may h owns = owner_delivered (copy_of machine number) tx kernel given machine h owns
owner_step tx kernel machine old (Answer key body given) new may h owns =
    let held = may_answer_held (call_of machine key) may.0 in
    let own = found_sound (Owns tx kernel) (is_call key) held.0 machine.unfinished held.1 owns in
    let fewer = answered_by tx kernel key held.0 body machine.unfinished held.1 held.2 own.0 (key.0 == tx) refl in
    let same = ap (λ calls. left_of (held_by kernel) tx (changed (is_call key) (answered body) calls)) (unfinished_replied (call_of machine key) given machine).0 in
    omega arith
owner_step tx kernel machine old (Silence key at) new may h owns = (let fewer = left_changed (held_by kernel) tx (is_call key) (further at Silent) (λ call. refl) (held_less at kernel Silent refl) machine.unfinished in omega arith)
owner_step tx kernel machine old (Expire key sent) new may h owns = (let fewer = owner_expired (call_of machine key) tx kernel key sent machine h in omega arith)

owner_run : (tx kernel : ℕ) (machine : Machine) (counts : Counts) (steps : List (Act × Counts)) → IsRun machine counts steps → Ordered machine → AllByRecursion (Owns tx kernel) machine.unfinished → (machine.begun < tx → owner_in tx machine steps ≡ kernel) → times (replies tx) machine steps ≤ left_of (held_by kernel) tx machine.unfinished + times (brings (is_request_of tx kernel)) machine steps
owner_run tx kernel machine counts [] run h owns named = omega arith
owner_run tx kernel machine counts (first ∷ rest) run h owns named =
    let next = owner_in tx (after machine first.0) rest in
    let here = owner_step tx kernel machine counts first.0 first.1 run.0 h owns in
    let later = owner_run tx kernel (after machine first.0) first.1 rest run.1 (ordered_after machine first.0 h) (owns_after tx kernel next machine first.0 named owns) (named_after tx kernel next machine first.0 named) in
    omega arith

-- at most four copies of a reply come for each time that the request was sent
pub four_replies_each : FourRepliesEach
four_replies_each counts steps tx run =
    let kernel = owner_in tx idle steps in
    let sent = owner_run tx kernel idle counts steps run (omega arith) tt (λ past. refl) in
    let requests = two_requests_each counts steps tx kernel run in
    let copies = two_replies_each counts steps tx run in
    omega arith
