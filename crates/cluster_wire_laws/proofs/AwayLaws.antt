-- Packets of a call come between its sender and a receiver only where the call begins with a packet to that receiver.
use Rattle.std.proofs.Common.{arith, ◌≡◌, ℕ, ◌+◌, ◌==◌, Bool, true, false, ◌&&◌, ◌||◌, cond, List, [], ◌∷◌, map, Option, Some, None, refl, sym, ap, ap₂, subst, ◌∙◌}
use Rattle.std.specs.List.{AllByRecursion, find, list_any}
use Rattle.std.proofs.lemmas.Bool.{eqb-true}
use Rattle.sprite_ids.specs.declared.TxNo.{TxNo}
use Rattle.sprite_ids.specs.Lists.{changed}
use Rattle.sprite_ids.proofs.ListLaws.{each_append, each_push, some_is}
use Rattle.link_plan.specs.declared.Fate.{Fate}
use Rattle.kernel_rpc.specs.declared.Arrival.{Arrival}
use Rattle.kernel_rpc.specs.declared.Arrival.TheVariants.{FirstRequest, FirstReply, AskedAgain, Past}
use Rattle.kernel_rpc.specs.declared.Call.{Call}
use Rattle.kernel_rpc.specs.declared.PacketCopy.{PacketCopy}
use Rattle.kernel_rpc.specs.declared.Part.{Part}
use Rattle.kernel_rpc.specs.declared.Part.TheVariants.{Answered, Holding, Silent}
use Rattle.kernel_rpc.specs.declared.Receiver.{Receiver}
use Rattle.kernel_rpc.specs.Copies.{copies_by, requests}
use Rattle.kernel_rpc.specs.Histories.{brings, passes, times}
use Rattle.kernel_rpc.specs.Machine.{Machine, answered, call_of, copy_of, delivered_as, arrival, fresh, further, gave_up, idle, is_at, is_call, is_copy, is_last, landed, new_call, replied, reply_to, request, resent, tried, with_part}
use Rattle.kernel_rpc.specs.Runs.{Act, AsksAgain, AsksUnless, Begin, Deliver, Answer, Silence, Expire, Counts, IsRun, MayAct, after, delivered_by, expired_by, once_if}
use Rattle.kernel_rpc.proofs.BeginLaws.{kernels_fresh}
use Rattle.kernel_rpc.proofs.CopyLaws.{each_by, each_without}
use Rattle.kernel_rpc.proofs.PartLaws.{any_map}
use Rattle.kernel_rpc.proofs.RunLaws.{unfinished_replied}
use Rattle.kernel_rpc.proofs.SoundLaws.{found_sound}
use Rattle.kernel_rpc.proofs.TryLaws.{each_kept}
use Rattle.cluster_wire_laws.specs.Told.{begins_to, is_packet_of}

-- a copy is no packet of the call between its sender and the receiver
abbrev IsCopyAway : ℕ → ℕ → PacketCopy → Type 0
IsCopyAway tx receiver copy = is_packet_of tx receiver copy ≡ false

-- the receiver is neither the owner of the call of that number nor one to which its request goes
abbrev IsCallAway : ℕ → ℕ → Call → Type 0
IsCallAway tx receiver call = ((call.tx.0 == tx) && ((call.owner == receiver) || list_any (is_at receiver) call.receivers)) ≡ false

record Away (tx receiver : ℕ) (machine : Machine) : Type 0 where
  calls : AllByRecursion (IsCallAway tx receiver) machine.unfinished
  copies : AllByRecursion (IsCopyAway tx receiver) machine.copies

neither : (a b c : Bool) → (a && (b || c)) ≡ false → ((a && b) ≡ false) × ((a && c) ≡ false)
neither true true c h = absurd (cc)
neither true false c h = (refl, h)
neither false b c h = (refl, refl)

-- the copies of a request that goes to others
requests_away : (tx receiver : ℕ) (call : Call) (next number : ℕ) (sent : List (ℕ × Fate)) → ((call.tx.0 == tx) && list_any (λ (packet : ℕ × Fate). packet.0 == receiver) sent) ≡ false → AllByRecursion (IsCopyAway tx receiver) (requests (request call next call.owner) number sent)
requests_away tx receiver call next number [] none = tt
requests_away tx receiver call next number (first ∷ sent) none =
    let parts = neither (call.tx.0 == tx) (first.0 == receiver) (list_any (λ (packet : ℕ × Fate). packet.0 == receiver) sent) none in
    each_append (IsCopyAway tx receiver) (copies_by first.1 (record (request call next call.owner) { number = record { 0 = number }; to = first.0 })) (requests (request call next call.owner) (number + 2) sent) (each_by (IsCopyAway tx receiver) first.1 (record (request call next call.owner) { number = record { 0 = number }; to = first.0 }) parts.0 parts.0 parts.0) (requests_away tx receiver call next (number + 2) sent parts.1)

-- those of a reply
replied_away : (tx receiver : ℕ) (o : Option Call) (given : Fate) (machine : Machine) → ((call : Call) → o ≡ Some call → IsCallAway tx receiver call) → AllByRecursion (IsCopyAway tx receiver) machine.copies → AllByRecursion (IsCopyAway tx receiver) (replied o given machine).copies
replied_away tx receiver None given machine away h = h
replied_away tx receiver (Some call) given machine away h =
    let parts = neither (call.tx.0 == tx) (call.owner == receiver) (list_any (is_at receiver) call.receivers) (away call refl) in
    each_append (IsCopyAway tx receiver) machine.copies (copies_by given (reply_to call machine.next_copy)) h (each_by (IsCopyAway tx receiver) given (reply_to call machine.next_copy) parts.0 parts.0 parts.0)

found_away : (tx receiver : ℕ) (key : TxNo) (machine : Machine) → Away tx receiver machine → (call : Call) → call_of machine key ≡ Some call → IsCallAway tx receiver call
found_away tx receiver key machine h call found = found_sound (IsCallAway tx receiver) (is_call key) call machine.unfinished found h.calls

-- who the receivers of a call are stays
same_kernels : (receiver kernel : ℕ) (part : Part) (receivers : List Receiver) → list_any (is_at receiver) (with_part kernel part receivers) ≡ list_any (is_at receiver) receivers
same_kernels receiver kernel part [] = refl
same_kernels receiver kernel part (first ∷ rest) = elim (first.kernel == kernel) as (λ b. list_any (is_at receiver) (cond b (record first { part = part } ∷ rest) (first ∷ with_part kernel part rest)) ≡ ((first.kernel == receiver) || list_any (is_at receiver) rest)) [ true ↦ refl | false ↦ ap (λ b. (first.kernel == receiver) || b) (same_kernels receiver kernel part rest) ]

further_away : (tx receiver kernel : ℕ) (part : Part) (call : Call) → IsCallAway tx receiver call → IsCallAway tx receiver (further kernel part call)
further_away tx receiver kernel part call h = ap (λ b. (call.tx.0 == tx) && ((call.owner == receiver) || b)) (same_kernels receiver kernel part call.receivers) ∙ h

answered_away : (tx receiver : ℕ) (body : List ℕ) (call : Call) → IsCallAway tx receiver call → IsCallAway tx receiver (answered body call)
answered_away tx receiver body call h = ap (λ b. (call.tx.0 == tx) && ((call.owner == receiver) || b)) (same_kernels receiver call.owner Answered call.receivers) ∙ h

-- a copy comes
arrived_away : (tx receiver : ℕ) (at : Arrival) (copy : PacketCopy) (given : Fate) (machine : Machine) → Away tx receiver machine → Away tx receiver (delivered_as at copy given (landed copy machine))
arrived_away tx receiver FirstRequest copy given machine h = record {
  calls = each_kept (IsCallAway tx receiver) (is_call copy.tx) (further copy.to Holding) (further_away tx receiver copy.to Holding) machine.unfinished h.calls;
  copies = each_without (IsCopyAway tx receiver) (is_copy copy.number) machine.copies h.copies;
}
arrived_away tx receiver FirstReply copy given machine h = record {
  calls = each_without (IsCallAway tx receiver) (is_call copy.tx) machine.unfinished h.calls;
  copies = each_without (IsCopyAway tx receiver) (is_copy copy.number) machine.copies h.copies;
}
arrived_away tx receiver AskedAgain copy given machine h = record {
  calls = subst (AllByRecursion (IsCallAway tx receiver)) (sym (unfinished_replied (call_of (landed copy machine) copy.tx) given (landed copy machine)).0) h.calls;
  copies = replied_away tx receiver (call_of (landed copy machine) copy.tx) given (landed copy machine) (found_away tx receiver copy.tx machine h) (each_without (IsCopyAway tx receiver) (is_copy copy.number) machine.copies h.copies);
}
arrived_away tx receiver Past copy given machine h = record {
  calls = h.calls;
  copies = each_without (IsCopyAway tx receiver) (is_copy copy.number) machine.copies h.copies;
}

delivered_away : (tx receiver : ℕ) (o : Option PacketCopy) (given : Fate) (machine : Machine) → Away tx receiver machine → Away tx receiver (delivered_by o given machine)
delivered_away tx receiver None given machine h = h
delivered_away tx receiver (Some copy) given machine h = arrived_away tx receiver (arrival machine copy) copy given machine h

-- a timer fires
sent_again : (tx receiver : ℕ) (call : Call) (sent : List (ℕ × Fate)) → map (λ (packet : ℕ × Fate). packet.0) sent ≡ map (λ (receiver : Receiver). receiver.kernel) call.receivers → IsCallAway tx receiver call → ((call.tx.0 == tx) && list_any (λ (packet : ℕ × Fate). packet.0 == receiver) sent) ≡ false
sent_again tx receiver call sent same h =
    let parts = neither (call.tx.0 == tx) (call.owner == receiver) (list_any (is_at receiver) call.receivers) h in
    let to : list_any (λ (packet : ℕ × Fate). packet.0 == receiver) sent ≡ list_any (is_at receiver) call.receivers = sym (any_map (λ (packet : ℕ × Fate). packet.0) receiver sent) ∙ ap (list_any (λ n. n == receiver)) same ∙ any_map (λ (receiver : Receiver). receiver.kernel) receiver call.receivers in
    ap (λ b. (call.tx.0 == tx) && b) to ∙ parts.1

unless_away : (tx receiver : ℕ) (last : Bool) (key : TxNo) (call : Call) (sent : List (ℕ × Fate)) (machine : Machine) (old new : Counts) → IsCallAway tx receiver call → AsksUnless last old new sent call → Away tx receiver machine → Away tx receiver (cond last (gave_up key machine) (resent key (Some call) sent machine))
unless_away tx receiver true key call sent machine old new away asks h = record { calls = each_without (IsCallAway tx receiver) (is_call key) machine.unfinished h.calls; copies = h.copies }
unless_away tx receiver false key call sent machine old new away asks h = record {
  calls = each_kept (IsCallAway tx receiver) (is_call key) tried (λ call k. k) machine.unfinished h.calls;
  copies = each_append (IsCopyAway tx receiver) machine.copies (requests (request call machine.next_copy call.owner) machine.next_copy sent) h.copies (requests_away tx receiver call machine.next_copy machine.next_copy sent (sent_again tx receiver call sent asks.0 away));
}

expired_away : (tx receiver : ℕ) (o : Option Call) (key : TxNo) (sent : List (ℕ × Fate)) (machine : Machine) (old new : Counts) → call_of machine key ≡ o → AsksAgain old new sent o → Away tx receiver machine → Away tx receiver (expired_by key o sent machine)
expired_away tx receiver None key sent machine old new found asks h = h
expired_away tx receiver (Some call) key sent machine old new found asks h = unless_away tx receiver (is_last call) key call sent machine old new (found_away tx receiver key machine h call found) asks h

-- another call begins, or it does with packets to others
owner_apart : (receiver owner : ℕ) (servers : List ℕ) → list_any (λ server. server == owner) servers ≡ true → list_any (λ n. n == receiver) servers ≡ false → (b : Bool) → (owner == receiver) ≡ b → b ≡ false
owner_apart receiver owner servers there none true is = absurd (let here = subst (λ n. list_any (λ server. server == n) servers ≡ true) (eqb-true owner receiver is) there in cc)
owner_apart receiver owner servers there none false is = refl

began_away : (receiver owner : ℕ) (servers : List ℕ) (sent : List (ℕ × Fate)) → list_any (λ server. server == owner) servers ≡ true → map (λ (packet : ℕ × Fate). packet.0) sent ≡ servers → (b : Bool) → (b && list_any (λ (packet : ℕ × Fate). packet.0 == receiver) sent) ≡ false → (b && ((owner == receiver) || list_any (is_at receiver) (map fresh servers))) ≡ false
began_away receiver owner servers sent there same true none =
    let away : list_any (λ n. n == receiver) servers ≡ false = ap (list_any (λ n. n == receiver)) (sym same) ∙ any_map (λ (packet : ℕ × Fate). packet.0) receiver sent ∙ none in
    let kernels : list_any (is_at receiver) (map fresh servers) ≡ false = sym (any_map (λ (receiver : Receiver). receiver.kernel) receiver (map fresh servers)) ∙ ap (list_any (λ n. n == receiver)) (kernels_fresh servers) ∙ away in
    ap₂ (λ a b. a || b) (owner_apart receiver owner servers there away (owner == receiver) refl) kernels
began_away receiver owner servers sent there same false none = refl

away_after : (tx receiver : ℕ) (machine : Machine) (old : Counts) (act : Act) (new : Counts) → MayAct machine old act new → begins_to tx receiver machine act ≡ false → Away tx receiver machine → Away tx receiver (after machine act)
away_after tx receiver machine old (Begin from port servers owner body tries about before sent) new may none h = record {
  calls = each_push (IsCallAway tx receiver) machine.unfinished (new_call machine from port servers owner body tries about before) h.calls (began_away receiver owner servers sent may.2 may.5 (machine.begun + 1 == tx) none);
  copies = each_append (IsCopyAway tx receiver) machine.copies (requests (request (new_call machine from port servers owner body tries about before) machine.next_copy owner) machine.next_copy sent) h.copies (requests_away tx receiver (new_call machine from port servers owner body tries about before) machine.next_copy machine.next_copy sent none);
}
away_after tx receiver machine old (Deliver number given) new may none h = delivered_away tx receiver (copy_of machine number) given machine h
away_after tx receiver machine old (Answer key body given) new may none h = record {
  calls = subst (λ (calls : List Call). AllByRecursion (IsCallAway tx receiver) (changed (is_call key) (answered body) calls)) (sym (unfinished_replied (call_of machine key) given machine).0) (each_kept (IsCallAway tx receiver) (is_call key) (answered body) (answered_away tx receiver body) machine.unfinished h.calls);
  copies = replied_away tx receiver (call_of machine key) given machine (found_away tx receiver key machine h) h.copies;
}
away_after tx receiver machine old (Silence key at) new may none h = record {
  calls = each_kept (IsCallAway tx receiver) (is_call key) (further at Silent) (further_away tx receiver at Silent) machine.unfinished h.calls;
  copies = h.copies;
}
away_after tx receiver machine old (Expire key sent) new may none h = expired_away tx receiver (call_of machine key) key sent machine old new refl may.1 h

-- so no packet of it comes there
none_passes : (tx receiver : ℕ) (machine : Machine) → Away tx receiver machine → (p : PacketCopy → Bool) (o : Option PacketCopy) → find p machine.copies ≡ o → once_if (passes (is_packet_of tx receiver) o) ≡ 0
none_passes tx receiver machine h p None found = refl
none_passes tx receiver machine h p (Some copy) found = ap once_if (copy_away machine.copies h.copies found)
  where
    by_first : (first : PacketCopy) (rest : Option PacketCopy) → IsCopyAway tx receiver first → (rest ≡ Some copy → IsCopyAway tx receiver copy) → (b : Bool) → cond b (Some first) rest ≡ Some copy → IsCopyAway tx receiver copy
    by_first first rest here later true is = subst (IsCopyAway tx receiver) (some_is first copy is) here
    by_first first rest here later false is = later is

    copy_away : (copies : List PacketCopy) → AllByRecursion (IsCopyAway tx receiver) copies → find p copies ≡ Some copy → IsCopyAway tx receiver copy
    copy_away [] each is = absurd (cc)
    copy_away (first ∷ copies) each is = by_first first (find p copies) each.0 (copy_away copies each.1) (p first) is

none_brought : (tx receiver : ℕ) (machine : Machine) (act : Act) → Away tx receiver machine → once_if (brings (is_packet_of tx receiver) machine act) ≡ 0
none_brought tx receiver machine (Begin from port servers owner body tries about before sent) h = refl
none_brought tx receiver machine (Deliver number given) h = none_passes tx receiver machine h (is_copy number) (copy_of machine number) refl
none_brought tx receiver machine (Answer key body given) h = refl
none_brought tx receiver machine (Silence key at) h = refl
none_brought tx receiver machine (Expire key sent) h = refl

not_once : (b : Bool) (n : ℕ) → once_if b + n ≡ 0 → (b ≡ false) × (n ≡ 0)
not_once true n is = absurd (omega arith)
not_once false n is = (refl, omega arith)

none_came : (tx receiver : ℕ) (steps : List (Act × Counts)) (machine : Machine) (counts : Counts) → IsRun machine counts steps → times (begins_to tx receiver) machine steps ≡ 0 → Away tx receiver machine → times (brings (is_packet_of tx receiver)) machine steps ≡ 0
none_came tx receiver [] machine counts run none away = refl
none_came tx receiver (step ∷ steps) machine counts run none away =
    (let parts = not_once (begins_to tx receiver machine step.0) (times (begins_to tx receiver) (after machine step.0) steps) none in
    let here = none_brought tx receiver machine step.0 away in
    let rest = none_came tx receiver steps (after machine step.0) step.1 run.1 parts.1 (away_after tx receiver machine counts step.0 step.1 run.0 parts.0 away) in omega arith)

pub none_come : (tx receiver : ℕ) (counts : Counts) (steps : List (Act × Counts)) → IsRun idle counts steps → times (begins_to tx receiver) idle steps ≡ 0 → times (brings (is_packet_of tx receiver)) idle steps ≡ 0
none_come tx receiver counts steps run none = none_came tx receiver steps idle counts run none (record { calls = tt; copies = tt })
