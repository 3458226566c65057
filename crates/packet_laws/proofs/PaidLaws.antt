-- In each run each fault that is told has a packet before it.
use Rattle.std.proofs.Common.{arith, ◌≡◌, ℕ, ◌+◌, ◌≤◌, ◌==◌, Bool, true, false, ◌&&◌, ◌||◌, not, cond, List, [], ◌∷◌, ◌++◌, map, Option, Some, None, refl, sym, ap, subst, ◌∙◌}
use Rattle.std.specs.List.{AllByRecursion, find, list_any}
use Rattle.std.proofs.lemmas.Bool.{eqb-true}
use Rattle.sprite_ids.specs.declared.CopyNo.{CopyNo}
use Rattle.sprite_ids.specs.declared.TxNo.{TxNo}
use Rattle.sprite_ids.specs.Lists.{changed, less}
use Rattle.sprite_ids.proofs.ListLaws.{each_append, each_push, each_weaken, some_is}
use Rattle.link_plan.specs.declared.Fate.{Fate}
use Rattle.kernel_rpc.specs.declared.Arrival.{Arrival}
use Rattle.kernel_rpc.specs.declared.Arrival.TheVariants.{FirstRequest, FirstReply, AskedAgain, Past}
use Rattle.kernel_rpc.specs.declared.Part.{Part}
use Rattle.kernel_rpc.specs.declared.Part.TheVariants.{Waiting, Holding, Silent, Answered}
use Rattle.kernel_rpc.specs.declared.Receiver.{Receiver}
use Rattle.kernel_rpc.specs.declared.Call.{Call}
use Rattle.kernel_rpc.specs.declared.PacketCopy.{PacketCopy}
use Rattle.kernel_rpc.specs.Copies.{copies_by, requests}
use Rattle.kernel_rpc.specs.Machine.{Machine, answered, arrival, call_of, copy_of, delivered_as, fresh, further, gave_up, holds, idle, is_call, is_copy, is_last, landed, new_call, part_of, replied, reply_to, request, resent, tried, with_part}
use Rattle.kernel_rpc.specs.Runs.{Act, Begin, Deliver, Answer, Silence, Expire, AsksAgain, AsksUnless, Counts, IsRun, MayAct, after, delivered_by, expired_by, once_if}
use Rattle.kernel_rpc.specs.Servers.{AreApart}
use Rattle.kernel_rpc.specs.Sound.{HasBegun}
use Rattle.kernel_rpc.proofs.ArrivalLaws.{asked_of, first_request}
use Rattle.kernel_rpc.proofs.BeginLaws.{kernels_fresh, may_answer_held, may_be_silent_apart}
use Rattle.kernel_rpc.proofs.CauseLaws.{Holds, after_holds}
use Rattle.kernel_rpc.proofs.ComeLaws.{kernels_kept}
use Rattle.kernel_rpc.proofs.CopyLaws.{each_by, each_request, each_without}
use Rattle.kernel_rpc.proofs.NumberLaws.{each_changed}
use Rattle.kernel_rpc.proofs.OwnerLaws.{IsOwners, fresh_owners, owner_is, owners_with}
use Rattle.kernel_rpc.proofs.PartLaws.{both_true, eq_same, eq_turned, part_fresh, part_further, part_stays}
use Rattle.kernel_rpc.proofs.RunLaws.{unfinished_replied, not_then}
use Rattle.kernel_rpc.proofs.SoundLaws.{each_within, found_is, found_sound}
use Rattle.kernel_rpc.proofs.TryLaws.{each_kept}
use Rattle.unix_calls.specs.declared.Event.TheVariants as events
use Rattle.unix_calls.specs.declared.SendKind.TheVariants.{Other}
use Rattle.unix_calls.specs.declared.Rec.{Rec}
use Rattle.call_journal.specs.Matching.{is_at, is_pair, is_send_to}
use Rattle.call_journal.specs.WorthPackets.{is_send_between, was_sent_between}
use Rattle.cluster_wire.specs.Goings.{next_of}
use Rattle.cluster_wire.specs.Ran.{told_of}
use Rattle.cluster_choices.specs.Acts.{delivery}
use Rattle.cluster_wire_laws.specs.Links.{again_told, all_told_by, answer_told, came_told, fault_told, faults_told, fired_told, sent_told}
use Rattle.cluster_wire_laws.proofs.FewLaws.{first_most}
use Rattle.packet_laws.proofs.CreditLaws.{Goes, Has, Well, fault_goes, faults_go, goes_join, goes_less, goes_none, goes_record, pair_turned, pairs_few, pairs_to, sent_go, well_on}
use Rattle.packet_laws.proofs.RecordLaws.{any_behind, any_first, each_both, sent_between}

-- whether the owner has the request of a call between the two, and so may answer it
abbrev owes : ℕ → ℕ → Call → Bool
owes a b call = is_pair call.from call.owner a b && holds (part_of call.owner call.receivers)

abbrev owed : ℕ → ℕ → List Call → ℕ
owed a b [] = 0
owed a b (call ∷ calls) = once_if (owes a b call) + owed a b calls

turned_by : (a b : ℕ) (p : Call → Bool) (f : Call → Call) (call first : Call) (calls : List Call) → (find p calls ≡ Some call → owed a b (changed p f calls) + once_if (owes a b call) ≡ owed a b calls + once_if (owes a b (f call))) → (t : Bool) → cond {A = Option Call} t (Some first) (find p calls) ≡ Some call → owed a b (cond {A = List Call} t (f first ∷ calls) (first ∷ changed p f calls)) + once_if (owes a b call) ≡ once_if (owes a b first) + owed a b calls + once_if (owes a b (f call))
turned_by a b p f call first calls later true found =
    (let same = some_is first call found in
    let old = ap (λ (c : Call). once_if (owes a b c)) same in
    let new = ap (λ (c : Call). once_if (owes a b (f c))) same in omega arith)
turned_by a b p f call first calls later false found = (let rest = later found in omega arith)

-- where one call changes, what the others owe stays
owed_turned : (a b : ℕ) (p : Call → Bool) (f : Call → Call) (call : Call) (calls : List Call) → find p calls ≡ Some call → owed a b (changed p f calls) + once_if (owes a b call) ≡ owed a b calls + once_if (owes a b (f call))
owed_turned a b p f call [] found = absurd (cc)
owed_turned a b p f call (first ∷ calls) found = turned_by a b p f call first calls (owed_turned a b p f call calls) (p first) found

owed_changed : (a b : ℕ) (p : Call → Bool) (f : Call → Call) (calls : List Call) → ((call : Call) → once_if (owes a b (f call)) ≤ once_if (owes a b call)) → owed a b (changed p f calls) ≤ owed a b calls
owed_changed a b p f [] least = omega arith
owed_changed a b p f (call ∷ calls) least =
    (let rest = owed_changed a b p f calls least in
    let one = least call in
    elim (p call) as (λ t. owed a b (cond {A = List Call} t (f call ∷ calls) (call ∷ changed p f calls)) ≤ once_if (owes a b call) + owed a b calls) [ true ↦ omega arith | false ↦ omega arith ])

owed_less : (a b : ℕ) (p : Call → Bool) (calls : List Call) → owed a b (less p calls) ≤ owed a b calls
owed_less a b p [] = omega arith
owed_less a b p (call ∷ calls) =
    (let rest = owed_less a b p calls in
    elim (p call) as (λ t. owed a b (cond {A = List Call} t calls (call ∷ less p calls)) ≤ once_if (owes a b call) + owed a b calls) [ true ↦ omega arith | false ↦ omega arith ])

owed_push : (a b : ℕ) (calls : List Call) (call : Call) → owed a b (calls ++ call ∷ []) ≡ owed a b calls + once_if (owes a b call)
owed_push a b [] call = omega arith
owed_push a b (first ∷ calls) call = (let rest = owed_push a b calls call in omega arith)

once_both : (p q : Bool) → q ≡ true → once_if (p && q) ≡ once_if p
once_both true q is = ap once_if is
once_both false q is = refl

-- what holds of a call: its receivers differ, its request was sent to each, only its owner has answered, and the copies of its request
-- come from its caller
abbrev kernels : List Receiver → List ℕ
kernels receivers = map (λ (receiver : Receiver). receiver.kernel) receivers

abbrev IsFrom : ℕ → ℕ → PacketCopy → Type 0
IsFrom tx from copy = copy.reply ≡ false → copy.tx.0 ≡ tx → copy.from ≡ from

abbrev WasSent : List Rec → ℕ → ℕ → ℕ → Type 0
WasSent records tx from kernel = was_sent_between tx from kernel records ≡ true

record Held (records : List Rec) (copies : List PacketCopy) (call : Call) : Type 0 where
  apart : AreApart (kernels call.receivers)
  sent : AllByRecursion (WasSent records call.tx.0 call.from) (kernels call.receivers)
  owners : AllByRecursion (IsOwners call.owner) call.receivers
  come : AllByRecursion (IsFrom call.tx.0 call.from) copies

held_with : (records : List Rec) (copies : List PacketCopy) (call : Call) (at : ℕ) (part : Part) (reply : Option (List ℕ)) → (part ≡ Answered → at ≡ call.owner) → Held records copies call → Held records copies (record call { receivers = with_part at part call.receivers; reply = reply })
held_with records copies call at part reply may h = record {
  apart = subst AreApart (sym (kernels_kept at part call.receivers)) h.apart;
  sent = subst (AllByRecursion (WasSent records call.tx.0 call.from)) (sym (kernels_kept at part call.receivers)) h.sent;
  owners = owners_with call.owner at part may call.receivers h.owners;
  come = h.come;
}

held_further : (records : List Rec) (copies : List PacketCopy) (call : Call) (at : ℕ) (part : Part) → (part ≡ Answered → at ≡ call.owner) → Held records copies call → Held records copies (further at part call)
held_further records copies call at part may h = record {
  apart = subst AreApart (sym (kernels_kept at part call.receivers)) h.apart;
  sent = subst (AllByRecursion (WasSent records call.tx.0 call.from)) (sym (kernels_kept at part call.receivers)) h.sent;
  owners = owners_with call.owner at part may call.receivers h.owners;
  come = h.come;
}

-- records come behind, and the copies become others
held_on : (records told : List Rec) (old new : List PacketCopy) (call : Call) → (AllByRecursion (IsFrom call.tx.0 call.from) old → AllByRecursion (IsFrom call.tx.0 call.from) new) → Held records old call → Held (records ++ told) new call
held_on records told old new call copies h = record {
  apart = h.apart;
  sent = each_weaken (WasSent records call.tx.0 call.from) (WasSent (records ++ told) call.tx.0 call.from) (kernels call.receivers) (λ kernel was. any_first (λ (r : Rec). is_send_between call.tx.0 call.from kernel r r.event) records told was) h.sent;
  owners = h.owners;
  come = copies h.come;
}

abbrev AllHeld : List Rec → Machine → Type 0
AllHeld records machine = AllByRecursion (Held records machine.copies) machine.unfinished

held_more : (records told : List Rec) (machine : Machine) → AllHeld records machine → AllHeld (records ++ told) machine
held_more records told machine h = each_weaken (Held records machine.copies) (Held (records ++ told) machine.copies) machine.unfinished (λ call k. held_on records told machine.copies machine.copies call (λ come. come) k) h

held_landed : (records : List Rec) (copy : PacketCopy) (machine : Machine) → AllHeld records machine → AllHeld records (landed copy machine)
held_landed records copy machine h = each_weaken (Held records machine.copies) (Held records (less (is_copy copy.number) machine.copies)) machine.unfinished (λ call k. record { apart = k.apart; sent = k.sent; owners = k.owners; come = each_without (IsFrom call.tx.0 call.from) (is_copy copy.number) machine.copies k.come }) h

held_replied : (o : Option Call) (records : List Rec) (given : Fate) (machine : Machine) → AllHeld records machine → AllHeld records (replied o given machine)
held_replied None records given machine h = h
held_replied (Some call) records given machine h =
    let packet = reply_to call machine.next_copy in
    each_weaken (Held records machine.copies) (Held records (machine.copies ++ copies_by given packet)) machine.unfinished (λ other k. record { apart = k.apart; sent = k.sent; owners = k.owners; come = each_append (IsFrom other.tx.0 other.from) machine.copies (copies_by given packet) k.come (each_by (IsFrom other.tx.0 other.from) given packet (λ asks. absurd (cc)) (λ asks. absurd (cc)) (λ asks. absurd (cc))) }) h

held_arrived : (a : Arrival) (records : List Rec) (copy : PacketCopy) (given : Fate) (machine : Machine) → AllHeld records (landed copy machine) → AllHeld records (delivered_as a copy given (landed copy machine))
held_arrived FirstRequest records copy given machine h = each_kept (Held records (landed copy machine).copies) (is_call copy.tx) (further copy.to Holding) (λ call k. held_further records (landed copy machine).copies call copy.to Holding (λ e. absurd (cc)) k) machine.unfinished h
held_arrived FirstReply records copy given machine h = each_without (Held records (landed copy machine).copies) (is_call copy.tx) machine.unfinished h
held_arrived AskedAgain records copy given machine h = held_replied (call_of (landed copy machine) copy.tx) records given (landed copy machine) h
held_arrived Past records copy given machine h = h

held_delivered : (o : Option PacketCopy) (records : List Rec) (given : Fate) (machine : Machine) → AllHeld records machine → AllHeld records (delivered_by o given machine)
held_delivered None records given machine h = h
held_delivered (Some copy) records given machine h = held_arrived (arrival machine copy) records copy given machine (held_landed records copy machine h)

held_answered : (records : List Rec) (tx : TxNo) (body : List ℕ) (given : Fate) (machine : Machine) → AllHeld records machine → AllByRecursion (Held records (replied (call_of machine tx) given machine).copies) (changed (is_call tx) (answered body) (replied (call_of machine tx) given machine).unfinished)
held_answered records tx body given machine h =
    let behind = replied (call_of machine tx) given machine in
    each_kept (Held records behind.copies) (is_call tx) (answered body) (λ call k. held_with records behind.copies call call.owner Answered (Some body) (λ e. refl) k) behind.unfinished (held_replied (call_of machine tx) records given machine h)

-- copies of another call's request
others_from : (tx from key : ℕ) (packet : PacketCopy) (number : ℕ) (sent : List (ℕ × Fate)) → packet.tx.0 ≡ key → (key ≡ tx → ⊥) → AllByRecursion (IsFrom tx from) (requests packet number sent)
others_from tx from key packet number sent is apart = each_request (IsFrom tx from) packet number sent (λ number to late asks same. absurd (apart (sym is ∙ same))) (λ number to asks same. absurd (apart (sym is ∙ same)))

own_from : (tx from : ℕ) (packet : PacketCopy) (number : ℕ) (sent : List (ℕ × Fate)) → packet.from ≡ from → AllByRecursion (IsFrom tx from) (requests packet number sent)
own_from tx from packet number sent is = each_request (IsFrom tx from) packet number sent (λ number to late asks same. is) (λ number to asks same. is)

not_below : (begun tx : ℕ) → tx ≤ begun → begun + 1 ≡ tx → ⊥
not_below begun tx within same = omega arith

send_there : (from : ℕ) (key : TxNo) (packet : ℕ × Fate) (rest : List Rec) → was_sent_between key.0 from packet.0 (record { kernel = from; event = events.Send key packet.0 None Other } ∷ rest) ≡ true
send_there from key packet rest = sent_between key.0 from packet.0 (record { kernel = from; event = events.Send key packet.0 None Other } ∷ rest) (ap (λ (b : Bool). b || list_any (is_at from (is_send_to key.0 packet.0)) rest) (both_true (from == from) ((key.0 == key.0) && (packet.0 == packet.0)) (eq_same from) (both_true (key.0 == key.0) (packet.0 == packet.0) (eq_same key.0) (eq_same packet.0))))

all_sent : (from : ℕ) (key : TxNo) (sent : List (ℕ × Fate)) → AllByRecursion (WasSent (sent_told from key sent) key.0 from) (map (λ (packet : ℕ × Fate). packet.0) sent)
all_sent from key [] = tt
all_sent from key (packet ∷ sent) =
    let first : List Rec = record { kernel = from; event = events.Send key packet.0 None Other } ∷ fault_told from from packet.0 packet.1 in (
      send_there from key packet (fault_told from from packet.0 packet.1 ++ sent_told from key sent),
      each_weaken (WasSent (sent_told from key sent) key.0 from) (WasSent (first ++ sent_told from key sent) key.0 from) (map (λ (packet : ℕ × Fate). packet.0) sent) (λ kernel was. any_behind (λ (r : Rec). is_send_between key.0 from kernel r r.event) first (sent_told from key sent) was) (all_sent from key sent),
    )

held_begun : (records : List Rec) (machine : Machine) (counts : Counts) (call : Call) (servers : List ℕ) (sent : List (ℕ × Fate)) → Holds machine counts → AllHeld records machine → call.tx ≡ next_of machine → call.receivers ≡ map fresh servers → map (λ (packet : ℕ × Fate). packet.0) sent ≡ servers → AreApart servers → AllByRecursion (Held (records ++ sent_told call.from (next_of machine) sent) (machine.copies ++ requests (request call machine.next_copy call.owner) machine.next_copy sent)) (machine.unfinished ++ call ∷ [])
held_begun records machine counts call servers sent sound h number begins to apart =
    let told = sent_told call.from (next_of machine) sent in
    let packet = request call machine.next_copy call.owner in
    let more = requests packet machine.next_copy sent in
    let same : call.tx.0 ≡ machine.begun + 1 = ap (λ (tx : TxNo). tx.0) number in
    let at : kernels call.receivers ≡ servers = ap kernels begins ∙ kernels_fresh servers in
    each_push (Held (records ++ told) (machine.copies ++ more)) machine.unfinished call
    (each_both (λ (other : Call). other.tx.0 ≤ machine.begun) (Held records machine.copies) (Held (records ++ told) (machine.copies ++ more)) machine.unfinished
    (λ other within k. held_on records told machine.copies (machine.copies ++ more) other (λ copies. each_append (IsFrom other.tx.0 other.from) machine.copies more copies (others_from other.tx.0 other.from (machine.begun + 1) packet machine.next_copy sent same (not_below machine.begun other.tx.0 within))) k)
    (each_within 0 machine.begun machine.unfinished sound.numbered) h)
    record {
      apart = subst AreApart (sym at) apart;
      sent = subst (AllByRecursion (WasSent (records ++ told) call.tx.0 call.from)) (to ∙ sym at) (subst (λ (n : ℕ). AllByRecursion (WasSent (records ++ told) n call.from) (map (λ (packet : ℕ × Fate). packet.0) sent)) (sym same) (each_weaken (WasSent told (machine.begun + 1) call.from) (WasSent (records ++ told) (machine.begun + 1) call.from) (map (λ (packet : ℕ × Fate). packet.0) sent) (λ kernel was. any_behind (λ (r : Rec). is_send_between (machine.begun + 1) call.from kernel r r.event) records told was) (all_sent call.from (next_of machine) sent)));
      owners = subst (AllByRecursion (IsOwners call.owner)) (sym begins) (fresh_owners call.owner servers);
      come = each_append (IsFrom call.tx.0 call.from) machine.copies more (each_weaken (HasBegun machine.begun) (IsFrom call.tx.0 call.from) machine.copies (λ copy begun asks is. absurd (let past : copy.tx.0 ≡ machine.begun + 1 = is ∙ same in let within : copy.tx.0 ≤ machine.begun = begun in omega arith)) sound.flying) (own_from call.tx.0 call.from packet machine.next_copy sent refl);
    }

apart_numbers : (key : TxNo) (call other : Call) → call.tx.0 ≡ key.0 → is_call key other ≡ false → call.tx.0 ≡ other.tx.0 → ⊥
apart_numbers key call other is apart same = absurd (let there : is_call key other ≡ true = ap (λ (n : ℕ). n == key.0) (sym same ∙ is) ∙ eq_same key.0 in cc)

held_fired : (b : Bool) (records : List Rec) (machine : Machine) (counts : Counts) (tx : TxNo) (call : Call) (sent : List (ℕ × Fate)) → Holds machine counts → call_of machine tx ≡ Some call → AllHeld records machine → AllHeld records (cond b (gave_up tx machine) (resent tx (Some call) sent machine))
held_fired true records machine counts tx call sent sound found h = each_without (Held records machine.copies) (is_call tx) machine.unfinished h
held_fired false records machine counts tx call sent sound found h =
    let packet = request call machine.next_copy call.owner in
    let more = requests packet machine.next_copy sent in
    let all = machine.copies ++ more in
    let same : call.tx.0 ≡ tx.0 = eqb-true call.tx.0 tx.0 (found_is tx call machine.unfinished found) in
    each_changed (Held records machine.copies) (Held records all) tx tried 0 machine.begun machine.unfinished sound.numbered
    (λ other e k. record { apart = k.apart; sent = k.sent; owners = k.owners; come = each_append (IsFrom other.tx.0 other.from) machine.copies more k.come (others_from other.tx.0 other.from call.tx.0 packet machine.next_copy sent refl (apart_numbers tx call other same e)) })
    (λ this e k. record { apart = k.apart; sent = k.sent; owners = k.owners; come = each_append (IsFrom this.tx.0 this.from) machine.copies more k.come (own_from this.tx.0 this.from packet machine.next_copy sent (ap (λ (c : Call). c.from) (some_is call this (sym found ∙ e)))) }) h

found_copy : (P : PacketCopy → Type 0) (p : PacketCopy → Bool) (copy : PacketCopy) (copies : List PacketCopy) → find p copies ≡ Some copy → AllByRecursion P copies → P copy
found_copy P p copy [] found h = absurd (cc)
found_copy P p copy (first ∷ copies) found h = by (p first) (λ is. found_copy P p copy copies is h.1) found
  where
    by : (t : Bool) → (find p copies ≡ Some copy → P copy) → cond {A = Option PacketCopy} t (Some first) (find p copies) ≡ Some copy → P copy
    by true later is = subst P (some_is first copy is) h.0
    by false later is = later is

-- a copy of a request in flight comes from the caller
copy_from : (records : List Rec) (machine : Machine) (number : CopyNo) (copy : PacketCopy) (call : Call) → find (is_copy number) machine.copies ≡ Some copy → call_of machine copy.tx ≡ Some call → copy.reply ≡ false → AllHeld records machine → copy.from ≡ call.from
copy_from records machine number copy call flying found asks h =
    let held = found_sound (Held records machine.copies) (is_call copy.tx) call machine.unfinished found h in
    found_copy (IsFrom call.tx.0 call.from) (is_copy number) copy machine.copies flying held.come asks (sym (eqb-true call.tx.0 copy.tx.0 (found_is copy.tx call machine.unfinished found)))

-- a request that comes to the owner is a packet between the two
asks_packet : (a b : ℕ) (copy : PacketCopy) (call : Call) → copy.reply ≡ false → copy.to ≡ call.owner → copy.from ≡ call.from → once_if (not copy.reply && is_pair copy.to copy.from a b) ≡ once_if (is_pair call.from call.owner a b)
asks_packet a b copy call asks to from =
    ap (λ (reply : Bool). once_if (not reply && is_pair copy.to copy.from a b)) asks
    ∙ ap (λ (n : ℕ). once_if (is_pair n copy.from a b)) to
    ∙ ap (λ (n : ℕ). once_if (is_pair call.owner n a b)) from
    ∙ ap once_if (pair_turned call.from call.owner a b)

taken_owed : (a b : ℕ) (copy : PacketCopy) (call : Call) (calls : List Call) → find (is_call copy.tx) calls ≡ Some call → copy.reply ≡ false → copy.from ≡ call.from → (t : Bool) → (copy.to == call.owner) ≡ t → owed a b (changed (is_call copy.tx) (further copy.to Holding) calls) ≤ owed a b calls + once_if (not copy.reply && is_pair copy.to copy.from a b)
taken_owed a b copy call calls found asks from true is =
    (let turned = owed_turned a b (is_call copy.tx) (further copy.to Holding) call calls found in
    let paid = asks_packet a b copy call asks (eqb-true copy.to call.owner is) from in
    let most = first_most (is_pair call.from call.owner a b) (holds (part_of call.owner (with_part copy.to Holding call.receivers))) in omega arith)
taken_owed a b copy call calls found asks from false is =
    (let turned = owed_turned a b (is_call copy.tx) (further copy.to Holding) call calls found in
    let same = ap (λ (part : Option Part). once_if (is_pair call.from call.owner a b && holds part)) (part_stays copy.to call.owner Holding call.receivers is) in omega arith)

-- a copy comes
arrived_goes : (arr : Arrival) (a b : ℕ) (records : List Rec) (machine : Machine) (number : CopyNo) (copy : PacketCopy) (given : Fate) → find (is_copy number) machine.copies ≡ Some copy → arrival machine copy ≡ arr → AllHeld records machine → Has a b records (owed a b machine.unfinished) → Goes a b records (record { kernel = copy.to; event = delivery copy } ∷ again_told arr copy.to given (call_of machine copy.tx)) (owed a b (delivered_as arr copy given (landed copy machine)).unfinished)
arrived_goes FirstRequest a b records machine number copy given flying is h has =
    let first = first_request copy (call_of machine copy.tx) is in
    let r : Rec = record { kernel = copy.to; event = delivery copy } in
    goes_less a b records (r ∷ []) _ _ (taken_owed a b copy first.0 machine.unfinished first.1 first.2 (copy_from records machine number copy first.0 flying first.1 first.2 h) (copy.to == first.0.owner) refl) (goes_record a b records r (owed a b machine.unfinished) refl has)
arrived_goes FirstReply a b records machine number copy given flying is h has =
    let r : Rec = record { kernel = copy.to; event = delivery copy } in
    goes_less a b records (r ∷ []) (owed a b (less (is_call copy.tx) machine.unfinished)) (owed a b machine.unfinished + once_if (not copy.reply && is_pair copy.to copy.from a b)) (let least = owed_less a b (is_call copy.tx) machine.unfinished in omega arith) (goes_record a b records r (owed a b machine.unfinished) refl has)
arrived_goes AskedAgain a b records machine number copy given flying is h has =
    let asked = asked_of copy (call_of machine copy.tx) is in
    let call = asked.0 in
    let r : Rec = record { kernel = copy.to; event = delivery copy } in
    let held = found_sound (Held records machine.copies) (is_call copy.tx) call machine.unfinished asked.1 h in
    let paid = asks_packet a b copy call asked.2 (owner_is call.owner copy.to call.receivers held.owners asked.3) (copy_from records machine number copy call flying asked.1 asked.2 h) in
    let turned = ap once_if (pair_turned call.from call.owner a b) in
    let behind = replied (call_of (landed copy machine) copy.tx) given (landed copy machine) in
    let same = ap (owed a b) (unfinished_replied (call_of (landed copy machine) copy.tx) given (landed copy machine)).0 in
    let credit = owed a b machine.unfinished + once_if (not copy.reply && is_pair copy.to copy.from a b) in
    subst (λ (o : Option Call). Goes a b records (r ∷ again_told AskedAgain copy.to given o) (owed a b behind.unfinished)) (sym asked.1)
    (goes_join a b records (r ∷ []) (fault_told copy.to call.owner call.from given) credit (owed a b behind.unfinished) (goes_record a b records r (owed a b machine.unfinished) refl has)
    (λ left. fault_goes a b (records ++ r ∷ []) (owed a b behind.unfinished) credit copy.to call.owner call.from given (omega arith) left))
arrived_goes Past a b records machine number copy given flying is h has =
    let r : Rec = record { kernel = copy.to; event = delivery copy } in
    goes_less a b records (r ∷ []) (owed a b machine.unfinished) (owed a b machine.unfinished + once_if (not copy.reply && is_pair copy.to copy.from a b)) (omega arith) (goes_record a b records r (owed a b machine.unfinished) refl has)

delivered_goes : (o : Option PacketCopy) (a b : ℕ) (records : List Rec) (machine : Machine) (number : CopyNo) (given : Fate) → copy_of machine number ≡ o → AllHeld records machine → Has a b records (owed a b machine.unfinished) → Goes a b records (came_told machine given o) (owed a b (delivered_by o given machine).unfinished)
delivered_goes None a b records machine number given flying h has = goes_none a b records (owed a b machine.unfinished) has
delivered_goes (Some copy) a b records machine number given flying h has = arrived_goes (arrival machine copy) a b records machine number copy given flying refl h has

-- the owner answers
answered_goes : (a b : ℕ) (records : List Rec) (machine : Machine) (tx : TxNo) (call : Call) (body : List ℕ) (given : Fate) → call_of machine tx ≡ Some call → part_of call.owner call.receivers ≡ Some Holding → Has a b records (owed a b machine.unfinished) → Goes a b records (answer_told given (call_of machine tx)) (owed a b (changed (is_call tx) (answered body) (replied (call_of machine tx) given machine).unfinished))
answered_goes a b records machine tx call body given found part has =
    let behind = changed (is_call tx) (answered body) (replied (call_of machine tx) given machine).unfinished in
    let same = ap (λ (calls : List Call). owed a b (changed (is_call tx) (answered body) calls)) (unfinished_replied (call_of machine tx) given machine).0 in
    let turned = owed_turned a b (is_call tx) (answered body) call machine.unfinished found in
    let pair = is_pair call.from call.owner a b in
    let had = once_both pair (holds (part_of call.owner call.receivers)) (ap holds part) in
    let none = not_then pair (holds (part_of call.owner (with_part call.owner Answered call.receivers))) (ap holds (part_further call.owner Answered Holding call.receivers part)) in
    let back = ap once_if (pair_turned call.from call.owner a b) in
    subst (λ (o : Option Call). Goes a b records (answer_told given o) (owed a b behind)) (sym found) (fault_goes a b records (owed a b behind) (owed a b machine.unfinished) call.owner call.owner call.from given (omega arith) has)

silent_goes : (a b : ℕ) (records : List Rec) (machine : Machine) (tx : TxNo) (call : Call) (kernel : ℕ) → call_of machine tx ≡ Some call → (kernel == call.owner) ≡ false → Has a b records (owed a b machine.unfinished) → Goes a b records [] (owed a b (changed (is_call tx) (further kernel Silent) machine.unfinished))
silent_goes a b records machine tx call kernel found apart has =
    let turned = owed_turned a b (is_call tx) (further kernel Silent) call machine.unfinished found in
    let same = ap (λ (part : Option Part). once_if (is_pair call.from call.owner a b && holds part)) (part_stays kernel call.owner Silent call.receivers apart) in
    goes_less a b records [] (owed a b (changed (is_call tx) (further kernel Silent) machine.unfinished)) (owed a b machine.unfinished) (omega arith) (goes_none a b records (owed a b machine.unfinished) has)

begun_goes : (a b : ℕ) (records : List Rec) (machine : Machine) (call : Call) (sent : List (ℕ × Fate)) → part_of call.owner call.receivers ≡ Some Waiting → Has a b records (owed a b machine.unfinished) → Goes a b records (sent_told call.from (next_of machine) sent) (owed a b (machine.unfinished ++ call ∷ []))
begun_goes a b records machine call sent waits has =
    let more = owed_push a b machine.unfinished call in
    let none = not_then (is_pair call.from call.owner a b) (holds (part_of call.owner call.receivers)) (ap holds waits) in
    goes_less a b records (sent_told call.from (next_of machine) sent) (owed a b (machine.unfinished ++ call ∷ [])) (owed a b machine.unfinished) (omega arith) (sent_go a b call.from (next_of machine) sent records (owed a b machine.unfinished) has)

-- a timer fires
fired_goes : (t : Bool) (a b : ℕ) (records : List Rec) (machine : Machine) (old new : Counts) (tx : TxNo) (call : Call) (sent : List (ℕ × Fate)) → call_of machine tx ≡ Some call → AsksUnless t old new sent call → AllHeld records machine → Has a b records (owed a b machine.unfinished) → Goes a b records (record { kernel = call.from; event = events.Expire tx t } ∷ cond {A = List Rec} t [] (faults_told call.from sent)) (owed a b (cond t (gave_up tx machine) (resent tx (Some call) sent machine)).unfinished)
fired_goes true a b records machine old new tx call sent found asks h has =
    let r : Rec = record { kernel = call.from; event = events.Expire tx true } in
    goes_less a b records (r ∷ []) (owed a b (less (is_call tx) machine.unfinished)) (owed a b machine.unfinished + 0) (let least = owed_less a b (is_call tx) machine.unfinished in omega arith) (goes_record a b records r (owed a b machine.unfinished) refl has)
fired_goes false a b records machine old new tx call sent found asks h has =
    let r : Rec = record { kernel = call.from; event = events.Expire tx false } in
    let held = found_sound (Held records machine.copies) (is_call tx) call machine.unfinished found h in
    let few = pairs_few a b call.tx.0 call.from records (kernels call.receivers) held.apart held.sent in
    let same = ap (λ (n : ℕ). once_if (was_sent_between n a b records)) (eqb-true call.tx.0 tx.0 (found_is tx call machine.unfinished found)) in
    let to = ap (pairs_to a b call.from) asks.0 in
    let behind = owed a b (changed (is_call tx) tried machine.unfinished) in
    let least = owed_changed a b (is_call tx) tried machine.unfinished (λ other. omega arith) in
    let credit = owed a b machine.unfinished + once_if (was_sent_between tx.0 a b records) in
    goes_join a b records (r ∷ []) (faults_told call.from sent) credit behind (goes_record a b records r (owed a b machine.unfinished) refl has)
    (λ left. faults_go a b call.from sent (records ++ r ∷ []) behind credit (omega arith) left)

expire_goes : (o : Option Call) (a b : ℕ) (records : List Rec) (machine : Machine) (old new : Counts) (tx : TxNo) (sent : List (ℕ × Fate)) → call_of machine tx ≡ o → AsksAgain old new sent o → AllHeld records machine → Has a b records (owed a b machine.unfinished) → Goes a b records (fired_told tx sent o) (owed a b (expired_by tx o sent machine).unfinished)
expire_goes None a b records machine old new tx sent found asks h has = absurd asks
expire_goes (Some call) a b records machine old new tx sent found asks h has = fired_goes (is_last call) a b records machine old new tx call sent found asks h has

expire_held : (o : Option Call) (records : List Rec) (machine : Machine) (old new counts : Counts) (tx : TxNo) (sent : List (ℕ × Fate)) → Holds machine counts → call_of machine tx ≡ o → AsksAgain old new sent o → AllHeld records machine → AllHeld records (expired_by tx o sent machine)
expire_held None records machine old new counts tx sent sound found asks h = absurd asks
expire_held (Some call) records machine old new counts tx sent sound found asks h = held_fired (is_last call) records machine counts tx call sent sound found h

-- each act of the wire
goes_after : (a b : ℕ) (records : List Rec) (machine : Machine) (old : Counts) (act : Act) (new : Counts) → MayAct machine old act new → AllHeld records machine → Has a b records (owed a b machine.unfinished) → Goes a b records (all_told_by machine act) (owed a b (after machine act).unfinished)
goes_after a b records machine old (Begin from port servers owner body tries about before sent) new may h has = begun_goes a b records machine (new_call machine from port servers owner body tries about before) sent (part_fresh owner servers may.2) has
goes_after a b records machine old (Deliver number given) new may h has = delivered_goes (copy_of machine number) a b records machine number given refl h has
goes_after a b records machine old (Answer tx body given) new may h has =
    let held = may_answer_held (call_of machine tx) may.0 in
    answered_goes a b records machine tx held.0 body given held.1 held.2 has
goes_after a b records machine old (Silence tx kernel) new may h has =
    let away = may_be_silent_apart kernel (call_of machine tx) may.0 in
    silent_goes a b records machine tx away.0 kernel away.1 (eq_turned away.0.owner kernel away.2) has
goes_after a b records machine old (Expire tx sent) new may h has = expire_goes (call_of machine tx) a b records machine old new tx sent refl may.1 h has

held_after : (records : List Rec) (machine : Machine) (old : Counts) (act : Act) (new : Counts) → MayAct machine old act new → Holds machine old → AllHeld records machine → AllHeld (records ++ all_told_by machine act) (after machine act)
held_after records machine old (Begin from port servers owner body tries about before sent) new may sound h = held_begun records machine old (new_call machine from port servers owner body tries about before) servers sent sound h refl refl may.5 may.1
held_after records machine old (Deliver number given) new may sound h = held_delivered (copy_of machine number) (records ++ came_told machine given (copy_of machine number)) given machine (held_more records (came_told machine given (copy_of machine number)) machine h)
held_after records machine old (Answer tx body given) new may sound h = held_answered (records ++ answer_told given (call_of machine tx)) tx body given machine (held_more records (answer_told given (call_of machine tx)) machine h)
held_after records machine old (Silence tx kernel) new may sound h = each_kept (Held (records ++ []) machine.copies) (is_call tx) (further kernel Silent) (λ call k. held_further (records ++ []) machine.copies call kernel Silent (λ e. absurd (cc)) k) machine.unfinished (held_more records [] machine h)
held_after records machine old (Expire tx sent) new may sound h = expire_held (call_of machine tx) (records ++ fired_told tx sent (call_of machine tx)) machine old new old tx sent sound refl may.1 (held_more records (fired_told tx sent (call_of machine tx)) machine h)

well_run : (a b : ℕ) (steps : List (Act × Counts)) (records : List Rec) (machine : Machine) (counts : Counts) → IsRun machine counts steps → Holds machine counts → AllHeld records machine → Has a b records (owed a b machine.unfinished) → Well a b records (told_of all_told_by machine steps)
well_run a b [] records machine counts run sound h has = tt
well_run a b (step ∷ steps) records machine counts run sound h has =
    let told = all_told_by machine step.0 in
    let next = after machine step.0 in
    let goes = goes_after a b records machine counts step.0 step.1 run.0 h has in
    well_on a b told (told_of all_told_by next steps) records goes.well (well_run a b steps (records ++ told) next step.1 run.1 (after_holds machine counts step.0 step.1 run.0 sound) (held_after records machine counts step.0 step.1 run.0 sound h) goes.has)

-- in what a run tells, each fault has a packet before it
pub paid : (a b : ℕ) (steps : List (Act × Counts)) (counts : Counts) → IsRun idle counts steps → Well a b [] (told_of all_told_by idle steps)
paid a b steps counts run = well_run a b steps [] idle counts run record { numbered = omega arith; flying = tt; calls = tt } tt (omega arith)
