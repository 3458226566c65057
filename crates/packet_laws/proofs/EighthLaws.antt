-- A timer fires for the last time at the eighth.
use Rattle.std.proofs.Common.{arith, ◌≡◌, ℕ, ◌+◌, ◌<◌, ◌==◌, Bool, true, false, ◌&&◌, cond, List, [], ◌∷◌, ◌++◌, min, Option, Some, None, count_by, refl, sym, ap, subst, ◌∙◌, append-nil, append_assoc}
use Rattle.std.specs.List.{AllByRecursion}
use Rattle.std.proofs.lemmas.Bool.{eqb-true}
use Rattle.std.proofs.lemmas.Bool.Decides.{nat_tests}
use mathlib.Core.Bool.{and-false}
use Rattle.sprite_ids.specs.declared.TxNo.{TxNo}
use Rattle.sprite_ids.specs.declared.Tries.{Tries}
use Rattle.sprite_ids.specs.declared.Tries.TheVariants.{Eight, Always}
use Rattle.sprite_ids.proofs.ListLaws.{each_push, each_weaken, some_is}
use Rattle.link_plan.specs.declared.Fate.{Fate}
use Rattle.link_plan.specs.declared.Fate.TheVariants.{Once, Lost, Twice, Late}
use Rattle.kernel_rpc.specs.declared.Arrival.{Arrival}
use Rattle.kernel_rpc.specs.declared.Arrival.TheVariants.{FirstRequest, FirstReply, AskedAgain, Past}
use Rattle.kernel_rpc.specs.declared.Part.TheVariants.{Holding, Silent}
use Rattle.kernel_rpc.specs.declared.Call.{Call}
use Rattle.kernel_rpc.specs.declared.PacketCopy.{PacketCopy}
use Rattle.kernel_rpc.specs.Histories.{reached}
use Rattle.kernel_rpc.specs.Machine.{Machine, answered, arrival, call_of, copy_of, delivered_as, further, gave_up, idle, is_call, is_last, is_last_of, landed, lost_more, new_call, replied, resent, tried}
use Rattle.kernel_rpc.specs.Runs.{Act, Begin, Deliver, Answer, Silence, Expire, AsksAgain, Counts, IsRun, MayAct, after, delivered_by, expired_by, once_if}
use Rattle.kernel_rpc.proofs.BeginLaws.{may_expire_due}
use Rattle.kernel_rpc.proofs.CauseLaws.{Holds, after_holds}
use Rattle.kernel_rpc.proofs.CopyLaws.{each_without}
use Rattle.kernel_rpc.proofs.NumberLaws.{each_changed, each_dropped}
use Rattle.kernel_rpc.proofs.PartLaws.{both_true, eq_same}
use Rattle.kernel_rpc.proofs.RunLaws.{unfinished_replied, not_then}
use Rattle.kernel_rpc.proofs.SoundLaws.{found_is, found_sound, found_within, other_copy}
use Rattle.kernel_rpc.proofs.TryLaws.{IsTried, delivered_begun, each_kept, seven}
use Rattle.unix_calls.specs.declared.Event.TheVariants as events
use Rattle.unix_calls.specs.declared.SendKind.TheVariants.{Other}
use Rattle.unix_calls.specs.declared.Rec.{Rec}
use Rattle.call_journal.specs.Matching.{is_at, is_expire}
use Rattle.call_journal.specs.WorthPackets.{ends_at_eight, has_loss, is_limited}
use Rattle.cluster_wire.specs.Goings.{next_of}
use Rattle.cluster_wire.specs.Ran.{told_of}
use Rattle.cluster_choices.specs.Acts.{delivery}
use Rattle.cluster_wire_laws.specs.Links.{again_told, all_told_by, answer_told, came_told, fault_told, faults_told, fired_told, sent_told}
use Rattle.packet_laws.specs.Expiries.{EachLastIsEighth, EachLastIsWorth, OfRuns}
use Rattle.packet_laws.proofs.BareLaws.{expiries_link}
use Rattle.packet_laws.proofs.CreditLaws.{count_on, count_one}
use Rattle.packet_laws.proofs.ExpiryLaws.{fired_at, has_loss_before, may_there, run_front}

-- how often the timer of that number is told to have fired at a kernel
abbrev expiries : ℕ → ℕ → List Rec → ℕ
expiries kernel tx records = count_by (is_at kernel (is_expire tx)) records

-- no timer is told of
abbrev NoTimer : List Rec → Type 0
NoTimer told = (kernel tx : ℕ) → expiries kernel tx told ≡ 0

join_none : (first next : List Rec) → NoTimer first → NoTimer next → NoTimer (first ++ next)
join_none first next h k kernel tx = (let sum = count_on (is_at kernel (is_expire tx)) first next in let one = h kernel tx in let two = k kernel tx in omega arith)

fault_none : (at from to : ℕ) (fate : Fate) → NoTimer (fault_told at from to fate)
fault_none at from to Once kernel tx = refl
fault_none at from to Lost kernel tx = count_one (is_at kernel (is_expire tx)) (record { kernel = at; event = events.Fault from to Lost }) ∙ ap once_if (and-false (at == kernel))
fault_none at from to Twice kernel tx = count_one (is_at kernel (is_expire tx)) (record { kernel = at; event = events.Fault from to Twice }) ∙ ap once_if (and-false (at == kernel))
fault_none at from to Late kernel tx = count_one (is_at kernel (is_expire tx)) (record { kernel = at; event = events.Fault from to Late }) ∙ ap once_if (and-false (at == kernel))

faults_none : (at : ℕ) (sent : List (ℕ × Fate)) → NoTimer (faults_told at sent)
faults_none at [] kernel tx = refl
faults_none at (packet ∷ sent) kernel tx = join_none (fault_told at at packet.0 packet.1) (faults_told at sent) (fault_none at at packet.0 packet.1) (faults_none at sent) kernel tx

sent_none : (at : ℕ) (key : TxNo) (sent : List (ℕ × Fate)) → NoTimer (sent_told at key sent)
sent_none at key [] kernel tx = refl
sent_none at key (packet ∷ sent) kernel tx =
    let send : Rec = record { kernel = at; event = events.Send key packet.0 None Other } in
    join_none (send ∷ []) (fault_told at at packet.0 packet.1 ++ sent_told at key sent) (λ kernel tx. count_one (is_at kernel (is_expire tx)) send ∙ ap once_if (and-false (at == kernel))) (join_none (fault_told at at packet.0 packet.1) (sent_told at key sent) (fault_none at at packet.0 packet.1) (sent_none at key sent)) kernel tx

back_none : (at : ℕ) (given : Fate) (a : Arrival) (o : Option Call) → NoTimer (again_told a at given o)
back_none at given AskedAgain None kernel tx = refl
back_none at given AskedAgain (Some call) kernel tx = fault_none at call.owner call.from given kernel tx
back_none at given FirstRequest o kernel tx = refl
back_none at given FirstReply o kernel tx = refl
back_none at given Past o kernel tx = refl

came_none : (machine : Machine) (given : Fate) (o : Option PacketCopy) → NoTimer (came_told machine given o)
came_none machine given None kernel tx = refl
came_none machine given (Some copy) kernel tx =
    let first : Rec = record { kernel = copy.to; event = delivery copy } in
    join_none (first ∷ []) (again_told (arrival machine copy) copy.to given (call_of machine copy.tx)) (λ kernel tx. count_one (is_at kernel (is_expire tx)) first ∙ ap once_if (and-false (copy.to == kernel))) (back_none copy.to given (arrival machine copy) (call_of machine copy.tx)) kernel tx

answer_none : (given : Fate) (o : Option Call) → NoTimer (answer_told given o)
answer_none given None kernel tx = refl
answer_none given (Some call) kernel tx = fault_none call.owner call.owner call.from given kernel tx

abbrev Tried : List Rec → Call → Type 0
Tried records call = IsTried (expiries call.from call.tx.0 records) call.tries call.lost

-- of each call, and no timer fired of one that isn't begun
record Counted (records : List Rec) (machine : Machine) : Type 0 where
  calls : AllByRecursion (Tried records) machine.unfinished
  none : (kernel tx : ℕ) → machine.begun < tx → expiries kernel tx records ≡ 0

tried_same : (records told : List Rec) (call : Call) → expiries call.from call.tx.0 told ≡ 0 → Tried records call → Tried (records ++ told) call
tried_same records told call zero h = (let same : expiries call.from call.tx.0 (records ++ told) ≡ expiries call.from call.tx.0 records = (let sum = count_on (is_at call.from (is_expire call.tx.0)) records told in omega arith) in subst (λ (n : ℕ). IsTried n call.tries call.lost) (sym same) h)

counted_same : (records told : List Rec) (machine : Machine) → NoTimer told → Counted records machine → Counted (records ++ told) machine
counted_same records told machine silent h = record {
  calls = each_weaken (Tried records) (Tried (records ++ told)) machine.unfinished (λ call k. tried_same records told call (silent call.from call.tx.0) k) h.calls;
  none = λ kernel tx past. (let sum = count_on (is_at kernel (is_expire tx)) records told in let one = h.none kernel tx past in let two = silent kernel tx in omega arith);
}

pub new_tried : (count : ℕ) (tries : Tries) → count ≡ 0 → IsTried count tries 0
new_tried count Eight none = (omega arith, omega arith)
new_tried count Always none = tt

arrived_calls : (a : Arrival) (records : List Rec) (copy : PacketCopy) (given : Fate) (machine : Machine) → AllByRecursion (Tried records) machine.unfinished → AllByRecursion (Tried records) (delivered_as a copy given (landed copy machine)).unfinished
arrived_calls FirstRequest records copy given machine h = each_kept (Tried records) (is_call copy.tx) (further copy.to Holding) (λ call k. k) machine.unfinished h
arrived_calls FirstReply records copy given machine h = each_without (Tried records) (is_call copy.tx) machine.unfinished h
arrived_calls AskedAgain records copy given machine h = subst (AllByRecursion (Tried records)) (sym (unfinished_replied (call_of (landed copy machine) copy.tx) given (landed copy machine)).0) h
arrived_calls Past records copy given machine h = h

delivered_calls : (o : Option PacketCopy) (records : List Rec) (given : Fate) (machine : Machine) → AllByRecursion (Tried records) machine.unfinished → AllByRecursion (Tried records) (delivered_by o given machine).unfinished
delivered_calls None records given machine h = h
delivered_calls (Some copy) records given machine h = arrived_calls (arrival machine copy) records copy given machine h

pub one_more : (count : ℕ) (tries : Tries) (lost : ℕ) → is_last_of tries lost ≡ false → IsTried count tries lost → IsTried (count + 1) tries (lost_more tries lost)
one_more count Eight lost last h = (let same = h.0 in let few : lost < 7 = grind (arith, nat_tests) in let least : min (lost + 1) 7 ≡ lost + 1 = grind arith in (omega arith, omega arith))
one_more count Always lost last h = tt

-- what is told where a timer fires
fired_count : (call : Call) (tx : TxNo) (b : Bool) (rest : List Rec) (kernel n : ℕ) → NoTimer rest → expiries kernel n (record { kernel = call.from; event = events.Expire tx b } ∷ rest) ≡ once_if ((call.from == kernel) && (tx.0 == n))
fired_count call tx b rest kernel n silent =
    (let first : Rec = record { kernel = call.from; event = events.Expire tx b } in
    let sum = count_on (is_at kernel (is_expire n)) (first ∷ []) rest in
    let one = count_one (is_at kernel (is_expire n)) first in
    let zero = silent kernel n in omega arith)

rest_none : (at : ℕ) (sent : List (ℕ × Fate)) (b : Bool) → NoTimer (cond {A = List Rec} b [] (faults_told at sent))
rest_none at sent true kernel tx = refl
rest_none at sent false kernel tx = faults_none at sent kernel tx

other_tried : (records told : List Rec) (tx : TxNo) (call other : Call) → ((kernel n : ℕ) → expiries kernel n told ≡ once_if ((call.from == kernel) && (tx.0 == n))) → is_call tx other ≡ false → Tried records other → Tried (records ++ told) other
other_tried records told tx call other counts e k = tried_same records told other (counts other.from other.tx.0 ∙ not_then (call.from == other.from) (tx.0 == other.tx.0) (other_copy tx other e)) k

this_tried : (records told : List Rec) (tx : TxNo) (call : Call) → ((kernel n : ℕ) → expiries kernel n told ≡ once_if ((call.from == kernel) && (tx.0 == n))) → call.tx.0 ≡ tx.0 → is_last call ≡ false → Tried records call → Tried (records ++ told) (tried call)
this_tried records told tx call counts same last k =
    let here : ((call.from == call.from) && (tx.0 == call.tx.0)) ≡ true = both_true (call.from == call.from) (tx.0 == call.tx.0) (eq_same call.from) (subst (λ (n : ℕ). (n == call.tx.0) ≡ true) same (eq_same call.tx.0)) in
    let more : expiries call.from call.tx.0 (records ++ told) ≡ expiries call.from call.tx.0 records + 1 = (let sum = count_on (is_at call.from (is_expire call.tx.0)) records told in let one = counts call.from call.tx.0 in let once = ap once_if here in omega arith) in
    subst (λ (n : ℕ). IsTried n call.tries (lost_more call.tries call.lost)) (sym more) (one_more (expiries call.from call.tx.0 records) call.tries call.lost last k)

fired_calls : (b : Bool) (records told : List Rec) (machine : Machine) (old : Counts) (tx : TxNo) (call : Call) (sent : List (ℕ × Fate)) → ((kernel n : ℕ) → expiries kernel n told ≡ once_if ((call.from == kernel) && (tx.0 == n))) → call_of machine tx ≡ Some call → is_last call ≡ b → Holds machine old → Counted records machine → AllByRecursion (Tried (records ++ told)) (cond b (gave_up tx machine) (resent tx (Some call) sent machine)).unfinished
fired_calls true records told machine old tx call sent counts found last sound h = each_dropped (Tried records) (Tried (records ++ told)) tx 0 machine.begun machine.unfinished sound.numbered (λ other e k. other_tried records told tx call other counts e k) h.calls
fired_calls false records told machine old tx call sent counts found last sound h =
    each_changed (Tried records) (Tried (records ++ told)) tx tried 0 machine.begun machine.unfinished sound.numbered (λ other e k. other_tried records told tx call other counts e k)
    (λ this e k. (let same = some_is call this (sym found ∙ e) in subst (λ (c : Call). Tried (records ++ told) (tried c)) same (this_tried records told tx call counts (eqb-true call.tx.0 tx.0 (found_is tx call machine.unfinished found)) last (subst (Tried records) (sym same) k)))) h.calls

fired_begun : (b : Bool) (tx : TxNo) (call : Call) (sent : List (ℕ × Fate)) (machine : Machine) → (cond b (gave_up tx machine) (resent tx (Some call) sent machine)).begun ≡ machine.begun
fired_begun true tx call sent machine = refl
fired_begun false tx call sent machine = refl

expire_counted : (o : Option Call) (records : List Rec) (machine : Machine) (old new : Counts) (tx : TxNo) (sent : List (ℕ × Fate)) → call_of machine tx ≡ o → AsksAgain old new sent o → Holds machine old → Counted records machine → Counted (records ++ fired_told tx sent o) (expired_by tx o sent machine)
expire_counted None records machine old new tx sent found asks sound h = absurd asks
expire_counted (Some call) records machine old new tx sent found asks sound h =
    let told = fired_told tx sent (Some call) in
    let counts : (kernel n : ℕ) → expiries kernel n told ≡ once_if ((call.from == kernel) && (tx.0 == n)) = λ kernel n. fired_count call tx (is_last call) (cond {A = List Rec} (is_last call) [] (faults_told call.from sent)) kernel n (rest_none call.from sent (is_last call)) in
    let within = found_within (is_call tx) 0 machine.begun call machine.unfinished sound.numbered found in
    let same = eqb-true call.tx.0 tx.0 (found_is tx call machine.unfinished found) in
    let begun = fired_begun (is_last call) tx call sent machine in
    record {
      calls = fired_calls (is_last call) records told machine old tx call sent counts found refl sound h;
      none = λ kernel n past. (let apart : (tx.0 == n) ≡ false = grind (arith, nat_tests) in let sum = count_on (is_at kernel (is_expire n)) records told in let one = h.none kernel n (omega arith) in let two = counts kernel n in let zero = not_then (call.from == kernel) (tx.0 == n) apart in omega arith);
    }

counted_after : (records : List Rec) (machine : Machine) (old : Counts) (act : Act) (new : Counts) → MayAct machine old act new → Holds machine old → Counted records machine → Counted (records ++ all_told_by machine act) (after machine act)
counted_after records machine old (Begin from port servers owner body tries about count sent) new may sound h =
    let told = sent_told from (next_of machine) sent in
    let behind = counted_same records told machine (sent_none from (next_of machine) sent) h in
    record {
      calls = each_push (Tried (records ++ told)) machine.unfinished (new_call machine from port servers owner body tries about count) behind.calls (new_tried (expiries from (machine.begun + 1) (records ++ told)) tries (behind.none from (machine.begun + 1) (omega arith)));
      none = λ kernel tx past. behind.none kernel tx (omega arith);
    }
counted_after records machine old (Deliver number given) new may sound h =
    let behind = counted_same records (came_told machine given (copy_of machine number)) machine (came_none machine given (copy_of machine number)) h in
    let begun = delivered_begun (copy_of machine number) given machine in
    record { calls = delivered_calls (copy_of machine number) (records ++ came_told machine given (copy_of machine number)) given machine behind.calls; none = λ kernel tx past. behind.none kernel tx (omega arith) }
counted_after records machine old (Answer tx body given) new may sound h =
    let told = answer_told given (call_of machine tx) in
    let behind = counted_same records told machine (answer_none given (call_of machine tx)) h in
    let same = unfinished_replied (call_of machine tx) given machine in
    let begun = same.1 in
    record {
      calls = each_kept (Tried (records ++ told)) (is_call tx) (answered body) (λ call k. k) (replied (call_of machine tx) given machine).unfinished (subst (AllByRecursion (Tried (records ++ told))) (sym same.0) behind.calls);
      none = λ kernel n past. behind.none kernel n (omega arith);
    }
counted_after records machine old (Silence tx kernel) new may sound h =
    let behind = counted_same records [] machine (λ kernel tx. refl) h in
    record { calls = each_kept (Tried (records ++ [])) (is_call tx) (further kernel Silent) (λ call k. k) machine.unfinished behind.calls; none = behind.none }
counted_after records machine old (Expire tx sent) new may sound h = expire_counted (call_of machine tx) records machine old new tx sent refl may.1 sound h

counted_run : (steps : List (Act × Counts)) (records : List Rec) (machine : Machine) (counts : Counts) → IsRun machine counts steps → Holds machine counts → Counted records machine → Counted (records ++ told_of all_told_by machine steps) (reached machine steps)
counted_run [] records machine counts run sound h = subst (λ (xs : List Rec). Counted xs machine) (sym (append-nil records)) h
counted_run (step ∷ steps) records machine counts run sound h =
    let told = all_told_by machine step.0 in
    let next = after machine step.0 in
    let rest = counted_run steps (records ++ told) next step.1 run.1 (after_holds machine counts step.0 step.1 run.0 sound) (counted_after records machine counts step.0 step.1 run.0 sound h) in
    subst (λ (xs : List Rec). Counted xs (reached machine (step ∷ steps))) (append_assoc records told (told_of all_told_by next steps)) rest

pub last_is_eighth : OfRuns EachLastIsEighth
last_is_eighth first steps trace run told fires past rest kernel tx written =
    let at = fires past.records rest kernel tx true written in
    let split_run : IsRun idle first (at.done ++ (Expire tx at.sent, at.counts) ∷ at.rest) = subst (IsRun idle first) at.split run in
    let machine = reached idle at.done in
    let due = may_expire_due machine.copies (call_of machine tx) (may_there at.done at.rest tx at.sent at.counts idle first split_run) in
    let call = due.0 in
    let by = fired_at trace past.records rest kernel tx true steps at.done at.rest at.sent at.counts call told written at.split at.told due.1 in
    let done_run = run_front at.done ((Expire tx at.sent, at.counts) ∷ at.rest) idle first split_run in
    let counted = counted_run at.done [] idle first done_run record { numbered = omega arith; flying = tt; calls = tt } record { calls = tt; none = λ kernel tx past. refl } in
    let here = found_sound (Tried (told_of all_told_by idle at.done)) (is_call tx) call machine.unfinished due.1 counted.calls in
    let count = seven (expiries call.from call.tx.0 (told_of all_told_by idle at.done)) call.tries call.lost (sym by.1) here in
    let same = eqb-true call.tx.0 tx.0 (found_is tx call machine.unfinished due.1) in
    sym (expiries_link kernel tx.0 past.records)
    ∙ ap (expiries kernel tx.0) at.told
    ∙ ap (λ (k : ℕ). expiries k tx.0 (told_of all_told_by idle at.done)) by.0
    ∙ ap (λ (n : ℕ). expiries call.from n (told_of all_told_by idle at.done)) (sym same)
    ∙ count

-- the last one of a limited timer is as it should be
eighth_ends : (limited : Bool) (count : ℕ) → count ≡ 7 → cond limited (ends_at_eight (count + 1) true) true ≡ true
eighth_ends true count is = ap (λ (n : ℕ). ends_at_eight (n + 1) true) is
eighth_ends false count is = refl

pub last_is_worth : OfRuns EachLastIsWorth
last_is_worth first steps trace run told fires c past rest kernel tx written =
    let count = last_is_eighth first steps trace run told fires past rest kernel tx written in
    let limited = is_limited c past kernel tx.0 in
    both_true (has_loss past kernel tx.0) (cond limited (ends_at_eight (expiries kernel tx.0 past.records + 1) true) true) (has_loss_before first steps trace run told fires past rest kernel tx true written) (eighth_ends limited (expiries kernel tx.0 past.records) count)
