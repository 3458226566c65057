-- Where a packet of a call was lost since its request was sent last, a record of that stands behind that sending.
use Rattle.std.proofs.Common.{arith, ◌≡◌, ℕ, ◌+◌, ◌≤◌, ◌==◌, Bool, true, false, ◌&&◌, ◌||◌, not, cond, List, [], ◌∷◌, ◌++◌, Option, Some, None, refl, sym, ap, subst, ◌∙◌, append-nil, append_assoc}
use Rattle.std.specs.List.{AllByRecursion, find, list_any}
use Rattle.std.proofs.lemmas.Bool.{and_parts, eqb-true}
use Rattle.std.proofs.lemmas.Bool.Decides.{nat_tests}
use Rattle.sprite_ids.specs.declared.TxNo.{TxNo}
use Rattle.sprite_ids.proofs.ListLaws.{each_push, each_weaken, some_is}
use Rattle.sprite_ids.proofs.OnceLaws.{or_false}
use Rattle.link_plan.specs.declared.Fate.{Fate}
use Rattle.link_plan.specs.declared.Fate.TheVariants.{Once, Lost, Twice, Late}
use Rattle.kernel_rpc.specs.declared.Arrival.{Arrival}
use Rattle.kernel_rpc.specs.declared.Arrival.TheVariants.{FirstRequest, FirstReply, AskedAgain, Past}
use Rattle.kernel_rpc.specs.declared.Part.TheVariants.{Holding, Silent}
use Rattle.kernel_rpc.specs.declared.Call.{Call}
use Rattle.kernel_rpc.specs.declared.PacketCopy.{PacketCopy}
use Rattle.kernel_rpc.specs.Histories.{is_asked_again, is_loss, lost_since, loses_again, loses_to, reached}
use Rattle.kernel_rpc.specs.Machine.{Machine, answer, answered, arrival, call_of, copy_of, delivered_as, further, gave_up, idle, is_call, is_last, landed, new_call, owner_of, replied, resent, tried}
use Rattle.kernel_rpc.specs.Runs.{Act, Begin, Deliver, Answer, Silence, Expire, AsksAgain, Counts, IsRun, MayAct, after, delivered_by, expired_by}
use Rattle.kernel_rpc.specs.Sound.{IsNumbered}
use Rattle.kernel_rpc.proofs.CauseLaws.{Holds, after_holds}
use Rattle.kernel_rpc.proofs.CopyLaws.{each_without}
use Rattle.kernel_rpc.proofs.NumberLaws.{changed_same, each_changed, each_dropped}
use Rattle.kernel_rpc.proofs.PartLaws.{any_map, both_true, eq_same}
use Rattle.kernel_rpc.proofs.SoundLaws.{each_within, found_is, found_sound, other_copy}
use Rattle.kernel_rpc.proofs.TryLaws.{each_kept}
use Rattle.unix_calls.specs.declared.Event.TheVariants as events
use Rattle.unix_calls.specs.declared.SendKind.TheVariants.{Other}
use Rattle.unix_calls.specs.declared.Rec.{Rec}
use Rattle.call_journal.specs.Matching.{has_event, is_at, is_resend, is_send_to}
use Rattle.call_journal.specs.WorthPackets.{behind_last_sending, is_loss_of, was_sent_between}
use Rattle.cluster_wire.specs.Goings.{next_of}
use Rattle.cluster_wire.specs.Ran.{told_of}
use Rattle.cluster_choices.specs.Acts.{delivery}
use Rattle.cluster_wire_laws.specs.Links.{again_told, all_told_by, answer_told, came_told, fault_told, faults_told, fired_told, sent_told}
use Rattle.cluster_wire_laws.specs.Traces.{lost_after}
use Rattle.packet_laws.proofs.RecordLaws.{again_behind, any_behind, any_first, begun_behind, each_both, losses_on, or_more, sends_of, sent_back, sent_between, still_behind}

-- what records tell of a call with that number, caller and owner: that its request was sent, and that a packet was lost since the last time,
-- where one was
record Known (lost : Bool) (records : List Rec) (tx from owner : ℕ) : Type 0 where
  sent : list_any (is_at from (is_send_to tx owner)) records ≡ true
  loss : lost ≡ true → list_any (has_event (is_loss_of tx records)) (behind_last_sending from tx records) ≡ true

-- that of each unfinished call of a machine
abbrev AllKnown : (ℕ → Bool) → List Rec → Machine → Type 0
AllKnown lost records machine = AllByRecursion (λ (call : Call). Known (lost call.tx.0) records call.tx.0 call.from call.owner) machine.unfinished

-- records of no sending come behind, with a loss where one is new
known_on : (lost more later : Bool) (records told : List Rec) (tx from owner : ℕ) → list_any (is_at from (is_resend tx)) told ≡ false → (later ≡ true → (lost || more) ≡ true) → (more ≡ true → list_any (has_event (is_loss_of tx (records ++ told))) told ≡ true) → Known lost records tx from owner → Known later (records ++ told) tx from owner
known_on lost more later records told tx from owner none was new known = record {
  sent = any_first (is_at from (is_send_to tx owner)) records told known.sent;
  loss = λ is.
      (let p : Rec → Bool = has_event (is_loss_of tx (records ++ told)) in
      let old = behind_last_sending from tx records in
      let by : (lost || more) ≡ true → (list_any p (old ++ told) || list_any p (old ++ told)) ≡ true = or_more lost more (list_any p (old ++ told)) (list_any p (old ++ told)) (λ e. any_first p old told (losses_on tx records told old (known.loss e))) (λ e. any_behind p old told (new e)) in
      ap (list_any p) (still_behind from tx records told (sends_of tx from owner records known.sent) none) ∙ twice (list_any p (old ++ told)) (by (was is)));
}
  where
    twice : (b : Bool) → (b || b) ≡ true → b ≡ true
    twice true h = refl
    twice false h = h

or_none : (b : Bool) → b ≡ true → (b || false) ≡ true
or_none b h = ap (λ (x : Bool). x || false) h

-- nothing new is lost
known_still : (lost later : Bool) (records told : List Rec) (tx from owner : ℕ) → list_any (is_at from (is_resend tx)) told ≡ false → (later ≡ true → lost ≡ true) → Known lost records tx from owner → Known later (records ++ told) tx from owner
known_still lost later records told tx from owner none was known = known_on lost false later records told tx from owner none (λ is. or_none lost (was is)) (λ is. absurd (cc)) known

no_test : (b : Bool) (rest : Bool) → rest ≡ false → ((b && false) || rest) ≡ false
no_test true rest h = h
no_test false rest h = h

pub none_on : (p : Rec → Bool) (xs ys : List Rec) → list_any p xs ≡ false → list_any p ys ≡ false → list_any p (xs ++ ys) ≡ false
none_on p [] ys first rest = rest
none_on p (x ∷ xs) ys first rest =
    let parts = or_false (p x) (list_any p xs) first in
    ap (λ (b : Bool). b || list_any p (xs ++ ys)) parts.0 ∙ none_on p xs ys parts.1 rest

-- a fault is no sending
fault_none : (kernel tx at from to : ℕ) (fate : Fate) → list_any (is_at kernel (is_resend tx)) (fault_told at from to fate) ≡ false
fault_none kernel tx at from to Once = refl
fault_none kernel tx at from to Lost = no_test (at == kernel) false refl
fault_none kernel tx at from to Twice = no_test (at == kernel) false refl
fault_none kernel tx at from to Late = no_test (at == kernel) false refl

faults_none : (kernel tx at : ℕ) (sent : List (ℕ × Fate)) → list_any (is_at kernel (is_resend tx)) (faults_told at sent) ≡ false
faults_none kernel tx at [] = refl
faults_none kernel tx at (packet ∷ sent) = none_on (is_at kernel (is_resend tx)) (fault_told at at packet.0 packet.1) (faults_told at sent) (fault_none kernel tx at at packet.0 packet.1) (faults_none kernel tx at sent)

sent_none : (kernel tx at : ℕ) (key : TxNo) (sent : List (ℕ × Fate)) → list_any (is_at kernel (is_resend tx)) (sent_told at key sent) ≡ false
sent_none kernel tx at key [] = refl
sent_none kernel tx at key (packet ∷ sent) = no_test (at == kernel) _ (none_on (is_at kernel (is_resend tx)) (fault_told at at packet.0 packet.1) (sent_told at key sent) (fault_none kernel tx at at packet.0 packet.1) (sent_none kernel tx at key sent))

fault_lost : (tx at from to : ℕ) (records : List Rec) (fate : Fate) → is_loss fate ≡ true → was_sent_between tx from to records ≡ true → list_any (has_event (is_loss_of tx records)) (fault_told at from to fate) ≡ true
fault_lost tx at from to records Once lost sent = absurd (cc)
fault_lost tx at from to records Lost lost sent = or_none (was_sent_between tx from to records) sent
fault_lost tx at from to records Twice lost sent = absurd (cc)
fault_lost tx at from to records Late lost sent = absurd (cc)

one_lost : (tx from owner : ℕ) (records : List Rec) (packet : ℕ × Fate) → was_sent_between tx from owner records ≡ true → ((packet.0 == owner) && is_loss packet.1) ≡ true → list_any (has_event (is_loss_of tx records)) (fault_told from from packet.0 packet.1) ≡ true
one_lost tx from owner records packet sent h =
    let parts = and_parts (packet.0 == owner) (is_loss packet.1) h in
    fault_lost tx from from packet.0 records packet.1 parts.1 (subst (λ (to : ℕ). was_sent_between tx from to records ≡ true) (sym (eqb-true packet.0 owner parts.0)) sent)

either : (p : Rec → Bool) (xs ys : List Rec) (a b : Bool) → (a ≡ true → list_any p xs ≡ true) → (b ≡ true → list_any p ys ≡ true) → (a || b) ≡ true → list_any p (xs ++ ys) ≡ true
either p xs ys true b first rest h = any_first p xs ys (first refl)
either p xs ys false b first rest h = any_behind p xs ys (rest h)

-- a lost packet to the owner is told
faults_lost : (tx from owner : ℕ) (records : List Rec) (sent : List (ℕ × Fate)) → was_sent_between tx from owner records ≡ true → loses_to owner sent ≡ true → list_any (has_event (is_loss_of tx records)) (faults_told from sent) ≡ true
faults_lost tx from owner records [] was h = absurd (cc)
faults_lost tx from owner records (packet ∷ sent) was h =
    let p : Rec → Bool = has_event (is_loss_of tx records) in
    either p (fault_told from from packet.0 packet.1) (faults_told from sent) ((packet.0 == owner) && is_loss packet.1) (loses_to owner sent) (one_lost tx from owner records packet was) (faults_lost tx from owner records sent was) h

sent_lost : (tx from owner : ℕ) (key : TxNo) (records : List Rec) (sent : List (ℕ × Fate)) → was_sent_between tx from owner records ≡ true → loses_to owner sent ≡ true → list_any (has_event (is_loss_of tx records)) (sent_told from key sent) ≡ true
sent_lost tx from owner key records [] was h = absurd (cc)
sent_lost tx from owner key records (packet ∷ sent) was h =
    let p : Rec → Bool = has_event (is_loss_of tx records) in
    either p (fault_told from from packet.0 packet.1) (sent_told from key sent) ((packet.0 == owner) && is_loss packet.1) (loses_to owner sent) (one_lost tx from owner records packet was) (sent_lost tx from owner key records sent was) h

pub sent_there : (from owner : ℕ) (key : TxNo) (sent : List (ℕ × Fate)) → list_any (λ (packet : ℕ × Fate). packet.0 == owner) sent ≡ true → list_any (is_at from (is_send_to key.0 owner)) (sent_told from key sent) ≡ true
sent_there from owner key [] there = absurd (cc)
sent_there from owner key (packet ∷ sent) there =
    let p : Rec → Bool = is_at from (is_send_to key.0 owner) in
    let rest = fault_told from from packet.0 packet.1 ++ sent_told from key sent in
    or_more (packet.0 == owner) (list_any (λ (packet : ℕ × Fate). packet.0 == owner) sent) ((from == from) && ((key.0 == key.0) && (packet.0 == owner))) (list_any p rest)
    (λ e. both_true (from == from) ((key.0 == key.0) && (packet.0 == owner)) (eq_same from) (both_true (key.0 == key.0) (packet.0 == owner) (eq_same key.0) e))
    (λ later. any_behind p (fault_told from from packet.0 packet.1) (sent_told from key sent) (sent_there from owner key sent later)) there

-- a call that begins
begun_lost : (records : List Rec) (from owner : ℕ) (key : TxNo) (sent : List (ℕ × Fate)) → was_sent_between key.0 from owner (records ++ sent_told from key sent) ≡ true → loses_to owner sent ≡ true → list_any (has_event (is_loss_of key.0 (records ++ sent_told from key sent))) (behind_last_sending from key.0 (records ++ sent_told from key sent)) ≡ true
begun_lost records from owner key [] was h = absurd (cc)
begun_lost records from owner key (packet ∷ sent) was h =
    begun_behind from key.0 (has_event (is_loss_of key.0 (records ++ sent_told from key (packet ∷ sent)))) records (record { kernel = from; event = events.Send key packet.0 None Other }) (fault_told from from packet.0 packet.1 ++ sent_told from key sent)
    (both_true (from == from) (key.0 == key.0) (eq_same from) (eq_same key.0))
    (sent_none from key.0 from key (packet ∷ sent))
    (sent_lost key.0 from owner key (records ++ sent_told from key (packet ∷ sent)) (packet ∷ sent) was h)

begun_known : (flag : Bool) (records : List Rec) (from owner : ℕ) (key : TxNo) (sent : List (ℕ × Fate)) → list_any (λ (packet : ℕ × Fate). packet.0 == owner) sent ≡ true → (flag ≡ true → loses_to owner sent ≡ true) → Known flag (records ++ sent_told from key sent) key.0 from owner
begun_known flag records from owner key sent there lost =
    (let p : Rec → Bool = is_at from (is_send_to key.0 owner) in
    let all = any_behind p records (sent_told from key sent) (sent_there from owner key sent there) in
    record { sent = all; loss = λ is. begun_lost records from owner key sent (sent_between key.0 from owner (records ++ sent_told from key sent) all) (lost is) })

pub new_number : (begun tx : ℕ) → tx ≤ begun → (begun + 1 == tx) ≡ false
new_number begun tx within = grind (arith, nat_tests)

flag_first : (b x y : Bool) → b ≡ true → cond b x y ≡ true → x ≡ true
flag_first true x y is h = h
flag_first false x y is h = absurd (cc)

flag_rest : (b x y : Bool) → b ≡ false → cond b x y ≡ true → y ≡ true
flag_rest true x y is h = absurd (cc)
flag_rest false x y is h = h

begin_known : (lost : ℕ → Bool) (records : List Rec) (machine : Machine) (call : Call) (sent : List (ℕ × Fate)) → IsNumbered 0 machine.unfinished machine.begun → call.tx ≡ next_of machine → list_any (λ (packet : ℕ × Fate). packet.0 == call.owner) sent ≡ true → AllKnown lost records machine → AllByRecursion (λ (other : Call). Known (cond (machine.begun + 1 == other.tx.0) (loses_to call.owner sent) (lost other.tx.0)) (records ++ sent_told call.from (next_of machine) sent) other.tx.0 other.from other.owner) (machine.unfinished ++ call ∷ [])
begin_known lost records machine call sent numbered number there h =
    let told = sent_told call.from (next_of machine) sent in
    let later : ℕ → Bool = λ tx. cond (machine.begun + 1 == tx) (loses_to call.owner sent) (lost tx) in
    let same = ap (λ (tx : TxNo). tx.0) number in
    each_push (λ (other : Call). Known (later other.tx.0) (records ++ told) other.tx.0 other.from other.owner) machine.unfinished call
    (each_both (λ (other : Call). other.tx.0 ≤ machine.begun) (λ (other : Call). Known (lost other.tx.0) records other.tx.0 other.from other.owner) (λ (other : Call). Known (later other.tx.0) (records ++ told) other.tx.0 other.from other.owner) machine.unfinished
    (λ other within k. known_still (lost other.tx.0) (later other.tx.0) records told other.tx.0 other.from other.owner (sent_none other.from other.tx.0 call.from (next_of machine) sent) (flag_rest (machine.begun + 1 == other.tx.0) (loses_to call.owner sent) (lost other.tx.0) (new_number machine.begun other.tx.0 within)) k)
    (each_within 0 machine.begun machine.unfinished numbered) h)
    (subst (λ (n : ℕ). Known (later n) (records ++ told) n call.from call.owner) (sym same) (begun_known (later (machine.begun + 1)) records call.from call.owner (next_of machine) sent there (flag_first (machine.begun + 1 == machine.begun + 1) (loses_to call.owner sent) (lost (machine.begun + 1)) (eq_same (machine.begun + 1)))))

-- a fact of numbers, callers and owners stays, whatever changes of a call
abbrev EachOf : (ℕ → ℕ → ℕ → Type 0) → Machine → Type 0
EachOf T machine = AllByRecursion (λ (call : Call). T call.tx.0 call.from call.owner) machine.unfinished

replied_each : (T : ℕ → ℕ → ℕ → Type 0) (o : Option Call) (given : Fate) (machine : Machine) → EachOf T machine → EachOf T (replied o given machine)
replied_each T None given machine h = h
replied_each T (Some call) given machine h = h

arrived_each : (a : Arrival) (T : ℕ → ℕ → ℕ → Type 0) (machine : Machine) (copy : PacketCopy) (given : Fate) → EachOf T machine → EachOf T (delivered_as a copy given (landed copy machine))
arrived_each FirstRequest T machine copy given h = each_kept (λ (call : Call). T call.tx.0 call.from call.owner) (is_call copy.tx) (further copy.to Holding) (λ call q. q) machine.unfinished h
arrived_each FirstReply T machine copy given h = each_without (λ (call : Call). T call.tx.0 call.from call.owner) (is_call copy.tx) machine.unfinished h
arrived_each AskedAgain T machine copy given h = replied_each T (call_of (landed copy machine) copy.tx) given (landed copy machine) h
arrived_each Past T machine copy given h = h

pub each_same : (P Q : Call → Type 0) (tx : TxNo) (last : ℕ) (calls : List Call) → IsNumbered 0 calls last → ((call : Call) → is_call tx call ≡ false → P call → Q call) → ((found : Call) → find (is_call tx) calls ≡ Some found → P found → Q found) → AllByRecursion P calls → AllByRecursion Q calls
each_same P Q tx last calls numbered other this h = subst (AllByRecursion Q) (changed_same (is_call tx) calls) (each_changed P Q tx (λ call. call) 0 last calls numbered other this h)

not_this : (l b c : Bool) → b ≡ false → (l || (b && c)) ≡ true → l ≡ true
not_this true b c is h = refl
not_this false true c is h = absurd (cc)
not_this false false c is h = h

back_none : (kernel tx at : ℕ) (given : Fate) (a : Arrival) (o : Option Call) → list_any (is_at kernel (is_resend tx)) (again_told a at given o) ≡ false
back_none kernel tx at given AskedAgain None = refl
back_none kernel tx at given AskedAgain (Some call) = fault_none kernel tx at call.owner call.from given
back_none kernel tx at given FirstRequest o = refl
back_none kernel tx at given FirstReply o = refl
back_none kernel tx at given Past o = refl

back_lost : (a : Arrival) (tx at : ℕ) (records : List Rec) (given : Fate) (call : Call) → (is_asked_again a && is_loss given) ≡ true → was_sent_between tx call.owner call.from records ≡ true → list_any (has_event (is_loss_of tx records)) (again_told a at given (Some call)) ≡ true
back_lost AskedAgain tx at records given call lost was = fault_lost tx at call.owner call.from records given lost was
back_lost FirstRequest tx at records given call lost was = absurd (cc)
back_lost FirstReply tx at records given call lost was = absurd (cc)
back_lost Past tx at records given call lost was = absurd (cc)

-- a copy comes
came_known : (lost : ℕ → Bool) (records : List Rec) (machine : Machine) (copy : PacketCopy) (given : Fate) (a : Arrival) → IsNumbered 0 machine.unfinished machine.begun → AllKnown lost records machine → AllByRecursion (λ (call : Call). Known (lost call.tx.0 || ((copy.tx.0 == call.tx.0) && (is_asked_again a && is_loss given))) (records ++ record { kernel = copy.to; event = delivery copy } ∷ again_told a copy.to given (call_of machine copy.tx)) call.tx.0 call.from call.owner) machine.unfinished
came_known lost records machine copy given a numbered h =
    let first : Rec = record { kernel = copy.to; event = delivery copy } in
    let told : Option Call → List Rec = λ o. first ∷ again_told a copy.to given o in
    let more = is_asked_again a && is_loss given in
    let flag : ℕ → Bool = λ n. lost n || ((copy.tx.0 == n) && more) in
    let known : Option Call → Call → Type 0 = λ o. λ call. Known (flag call.tx.0) (records ++ told o) call.tx.0 call.from call.owner in
    each_same (λ (call : Call). Known (lost call.tx.0) records call.tx.0 call.from call.owner) (known (call_of machine copy.tx)) copy.tx machine.begun machine.unfinished numbered
    (λ other e k. known_still (lost other.tx.0) (flag other.tx.0) records (told (call_of machine copy.tx)) other.tx.0 other.from other.owner (no_test (copy.to == other.from) (list_any (is_at other.from (is_resend other.tx.0)) (again_told a copy.to given (call_of machine copy.tx))) (back_none other.from other.tx.0 copy.to given a (call_of machine copy.tx))) (not_this (lost other.tx.0) (copy.tx.0 == other.tx.0) more (other_copy copy.tx other e)) k)
    (λ this e k. subst (λ (o : Option Call). known o this) (sym e) (known_on (lost this.tx.0) ((copy.tx.0 == this.tx.0) && more) (flag this.tx.0) records (told (Some this)) this.tx.0 this.from this.owner (no_test (copy.to == this.from) (list_any (is_at this.from (is_resend this.tx.0)) (again_told a copy.to given (Some this))) (back_none this.from this.tx.0 copy.to given a (Some this))) (λ is. is)
    (λ new. back_lost a this.tx.0 copy.to (records ++ told (Some this)) given this (and_parts (copy.tx.0 == this.tx.0) more new).1 (sent_back this.tx.0 this.from this.owner (records ++ told (Some this)) (any_first (is_at this.from (is_send_to this.tx.0 this.owner)) records (told (Some this)) k.sent))) k)) h

lost_once : (l : Bool) → (l || false) ≡ true → l ≡ true
lost_once true h = refl
lost_once false h = h

none_told : (lost later : ℕ → Bool) (records : List Rec) (calls : List Call) → ((tx : ℕ) → later tx ≡ true → lost tx ≡ true) → AllByRecursion (λ (call : Call). Known (lost call.tx.0) records call.tx.0 call.from call.owner) calls → AllByRecursion (λ (call : Call). Known (later call.tx.0) (records ++ []) call.tx.0 call.from call.owner) calls
none_told lost later records calls was h = each_weaken (λ (call : Call). Known (lost call.tx.0) records call.tx.0 call.from call.owner) (λ (call : Call). Known (later call.tx.0) (records ++ []) call.tx.0 call.from call.owner) calls (λ call k. known_still (lost call.tx.0) (later call.tx.0) records [] call.tx.0 call.from call.owner refl (was call.tx.0) k) h

deliver_known : (o : Option PacketCopy) (lost : ℕ → Bool) (records : List Rec) (machine : Machine) (given : Fate) → IsNumbered 0 machine.unfinished machine.begun → AllKnown lost records machine → AllKnown (λ tx. lost tx || loses_again tx machine given o) (records ++ came_told machine given o) (delivered_by o given machine)
deliver_known None lost records machine given numbered h = none_told lost (λ tx. lost tx || false) records machine.unfinished (λ tx. lost_once (lost tx)) h
deliver_known (Some copy) lost records machine given numbered h =
    let a = arrival machine copy in
    arrived_each a (λ (tx from owner : ℕ). Known (lost tx || ((copy.tx.0 == tx) && (is_asked_again a && is_loss given))) (records ++ record { kernel = copy.to; event = delivery copy } ∷ again_told a copy.to given (call_of machine copy.tx)) tx from owner) machine copy given (came_known lost records machine copy given a numbered h)

-- the owner answers
answer_none : (kernel tx : ℕ) (given : Fate) (o : Option Call) → list_any (is_at kernel (is_resend tx)) (answer_told given o) ≡ false
answer_none kernel tx given None = refl
answer_none kernel tx given (Some call) = fault_none kernel tx call.owner call.owner call.from given

answered_known : (lost : ℕ → Bool) (records : List Rec) (machine : Machine) (tx : TxNo) (given : Fate) → IsNumbered 0 machine.unfinished machine.begun → AllKnown lost records machine → AllByRecursion (λ (call : Call). Known (lost call.tx.0 || ((tx.0 == call.tx.0) && is_loss given)) (records ++ answer_told given (call_of machine tx)) call.tx.0 call.from call.owner) machine.unfinished
answered_known lost records machine tx given numbered h =
    let told : Option Call → List Rec = answer_told given in
    let flag : ℕ → Bool = λ n. lost n || ((tx.0 == n) && is_loss given) in
    let known : Option Call → Call → Type 0 = λ o. λ call. Known (flag call.tx.0) (records ++ told o) call.tx.0 call.from call.owner in
    each_same (λ (call : Call). Known (lost call.tx.0) records call.tx.0 call.from call.owner) (known (call_of machine tx)) tx machine.begun machine.unfinished numbered
    (λ other e k. known_still (lost other.tx.0) (flag other.tx.0) records (told (call_of machine tx)) other.tx.0 other.from other.owner (answer_none other.from other.tx.0 given (call_of machine tx)) (not_this (lost other.tx.0) (tx.0 == other.tx.0) (is_loss given) (other_copy tx other e)) k)
    (λ this e k. subst (λ (o : Option Call). known o this) (sym e) (known_on (lost this.tx.0) ((tx.0 == this.tx.0) && is_loss given) (flag this.tx.0) records (told (Some this)) this.tx.0 this.from this.owner (answer_none this.from this.tx.0 given (Some this)) (λ is. is)
    (λ new. fault_lost this.tx.0 this.owner this.owner this.from (records ++ told (Some this)) given (and_parts (tx.0 == this.tx.0) (is_loss given) new).1 (sent_back this.tx.0 this.from this.owner (records ++ told (Some this)) (any_first (is_at this.from (is_send_to this.tx.0 this.owner)) records (told (Some this)) k.sent))) k)) h

answer_known : (lost : ℕ → Bool) (records : List Rec) (machine : Machine) (tx : TxNo) (body : List ℕ) (given : Fate) → IsNumbered 0 machine.unfinished machine.begun → AllKnown lost records machine → AllKnown (λ n. lost n || ((tx.0 == n) && is_loss given)) (records ++ answer_told given (call_of machine tx)) (answer tx body given machine)
answer_known lost records machine tx body given numbered h =
    let T : ℕ → ℕ → ℕ → Type 0 = λ n from owner. Known (lost n || ((tx.0 == n) && is_loss given)) (records ++ answer_told given (call_of machine tx)) n from owner in
    each_kept (λ (call : Call). T call.tx.0 call.from call.owner) (is_call tx) (answered body) (λ call q. q) (replied (call_of machine tx) given machine).unfinished (replied_each T (call_of machine tx) given machine (answered_known lost records machine tx given numbered h))

-- a timer fires
not_again : (x y z rest : Bool) → y ≡ false → rest ≡ false → ((x && (y && z)) || rest) ≡ false
not_again true y z rest other none = ap (λ (b : Bool). (b && z) || rest) other ∙ none
not_again false y z rest other none = none

rest_none : (kernel tx at : ℕ) (sent : List (ℕ × Fate)) (b : Bool) → list_any (is_at kernel (is_resend tx)) (cond {A = List Rec} b [] (faults_told at sent)) ≡ false
rest_none kernel tx at sent true = refl
rest_none kernel tx at sent false = faults_none kernel tx at sent

again_known : (lost : Bool) (records : List Rec) (tx : TxNo) (n from owner : ℕ) (sent : List (ℕ × Fate)) → (tx.0 == n) ≡ true → Known lost records n from owner → Known (cond (tx.0 == n) (loses_to owner sent) lost) (records ++ record { kernel = from; event = events.Expire tx false } ∷ faults_told from sent) n from owner
again_known lost records tx n from owner sent same known =
    (let again : Rec = record { kernel = from; event = events.Expire tx false } in
    let all = records ++ again ∷ faults_told from sent in
    let p : Rec → Bool = has_event (is_loss_of n all) in
    let there = any_first (is_at from (is_send_to n owner)) records (again ∷ faults_told from sent) known.sent in
    record {
      sent = there;
      loss = λ is.
          (ap (list_any p) (again_behind from n records again (faults_told from sent) (sends_of n from owner records known.sent) (both_true (from == from) ((tx.0 == n) && true) (eq_same from) (both_true (tx.0 == n) true same refl)) (faults_none from n from sent))
          ∙ faults_lost n from owner all sent (sent_between n from owner all there) (flag_first (tx.0 == n) (loses_to owner sent) lost same is));
    })

fired_known : (b : Bool) (lost : ℕ → Bool) (records : List Rec) (machine : Machine) (tx : TxNo) (call : Call) (sent : List (ℕ × Fate)) → call_of machine tx ≡ Some call → IsNumbered 0 machine.unfinished machine.begun → AllKnown lost records machine → AllKnown (λ n. cond (tx.0 == n) (loses_to call.owner sent) (lost n)) (records ++ record { kernel = call.from; event = events.Expire tx b } ∷ cond {A = List Rec} b [] (faults_told call.from sent)) (cond b (gave_up tx machine) (resent tx (Some call) sent machine))
fired_known b lost records machine tx call sent found numbered h = by b
  where
    flag : ℕ → Bool
    flag n = cond (tx.0 == n) (loses_to call.owner sent) (lost n)

    told : Bool → List Rec
    told b = record { kernel = call.from; event = events.Expire tx b } ∷ cond {A = List Rec} b [] (faults_told call.from sent)

    before : Call → Type 0
    before other = Known (lost other.tx.0) records other.tx.0 other.from other.owner

    behind : Bool → Call → Type 0
    behind b other = Known (flag other.tx.0) (records ++ told b) other.tx.0 other.from other.owner

    others : (b : Bool) (other : Call) → is_call tx other ≡ false → before other → behind b other
    others b other e k = known_still (lost other.tx.0) (flag other.tx.0) records (told b) other.tx.0 other.from other.owner (not_again (call.from == other.from) (tx.0 == other.tx.0) (not b) (list_any (is_at other.from (is_resend other.tx.0)) (cond {A = List Rec} b [] (faults_told call.from sent))) (other_copy tx other e) (rest_none other.from other.tx.0 call.from sent b)) (flag_rest (tx.0 == other.tx.0) (loses_to call.owner sent) (lost other.tx.0) (other_copy tx other e)) k

    same : (tx.0 == call.tx.0) ≡ true
    same = subst (λ (n : ℕ). (n == call.tx.0) ≡ true) (eqb-true call.tx.0 tx.0 (found_is tx call machine.unfinished found)) (eq_same call.tx.0)

    this : (one : Call) → find (is_call tx) machine.unfinished ≡ Some one → before one → behind false one
    this one e k = subst (behind false) (some_is call one (sym found ∙ e)) (again_known (lost call.tx.0) records tx call.tx.0 call.from call.owner sent same (subst before (some_is one call (sym e ∙ found)) k))

    by : (b : Bool) → AllKnown flag (records ++ told b) (cond b (gave_up tx machine) (resent tx (Some call) sent machine))
    by true = each_dropped before (behind true) tx 0 machine.begun machine.unfinished numbered (others true) h
    by false = each_changed before (behind false) tx tried 0 machine.begun machine.unfinished numbered (others false) this h

expire_known : (o : Option Call) (lost : ℕ → Bool) (records : List Rec) (machine : Machine) (old new : Counts) (tx : TxNo) (sent : List (ℕ × Fate)) → call_of machine tx ≡ o → AsksAgain old new sent o → IsNumbered 0 machine.unfinished machine.begun → AllKnown lost records machine → AllKnown (λ n. cond (tx.0 == n) (loses_to (owner_of o) sent) (lost n)) (records ++ fired_told tx sent o) (expired_by tx o sent machine)
expire_known None lost records machine old new tx sent found asks numbered h = absurd asks
expire_known (Some call) lost records machine old new tx sent found asks numbered h = fired_known (is_last call) lost records machine tx call sent found numbered h

-- each act of the wire
known_after : (lost : ℕ → Bool) (records : List Rec) (machine : Machine) (old : Counts) (act : Act) (new : Counts) → MayAct machine old act new → Holds machine old → AllKnown lost records machine → AllKnown (λ tx. lost_since tx machine act (lost tx)) (records ++ all_told_by machine act) (after machine act)
known_after lost records machine old (Begin from port servers owner body tries about before sent) new may sound h = begin_known lost records machine (new_call machine from port servers owner body tries about before) sent sound.numbered refl (sym (any_map (λ (packet : ℕ × Fate). packet.0) owner sent) ∙ ap (list_any (λ (n : ℕ). n == owner)) may.5 ∙ may.2) h
known_after lost records machine old (Deliver number given) new may sound h = deliver_known (copy_of machine number) lost records machine given sound.numbered h
known_after lost records machine old (Answer tx body given) new may sound h = answer_known lost records machine tx body given sound.numbered h
known_after lost records machine old (Silence tx kernel) new may sound h = each_kept (λ (call : Call). Known (lost call.tx.0) (records ++ []) call.tx.0 call.from call.owner) (is_call tx) (further kernel Silent) (λ call q. q) machine.unfinished (none_told lost lost records machine.unfinished (λ n is. is) h)
known_after lost records machine old (Expire tx sent) new may sound h = expire_known (call_of machine tx) lost records machine old new tx sent refl may.1 sound.numbered h

known_run : (steps : List (Act × Counts)) (lost : ℕ → Bool) (records : List Rec) (machine : Machine) (counts : Counts) → IsRun machine counts steps → Holds machine counts → AllKnown lost records machine → AllKnown (lost_after lost machine steps) (records ++ told_of all_told_by machine steps) (reached machine steps)
known_run [] lost records machine counts run sound h = subst (λ (xs : List Rec). AllKnown lost xs machine) (sym (append-nil records)) h
known_run (step ∷ steps) lost records machine counts run sound h =
    let told = all_told_by machine step.0 in
    let next = after machine step.0 in
    let rest = known_run steps (λ tx. lost_since tx machine step.0 (lost tx)) (records ++ told) next step.1 run.1 (after_holds machine counts step.0 step.1 run.0 sound) (known_after lost records machine counts step.0 step.1 run.0 sound h) in
    subst (λ (xs : List Rec). AllKnown (lost_after lost machine (step ∷ steps)) xs (reached machine (step ∷ steps))) (append_assoc records told (told_of all_told_by next steps)) rest

-- behind all acts of a run, a call of which a packet was lost since its request was sent last has a record of that
pub loss_told : (steps : List (Act × Counts)) (counts : Counts) (tx : TxNo) (call : Call) → IsRun idle counts steps → call_of (reached idle steps) tx ≡ Some call → lost_after (λ n. false) idle steps tx.0 ≡ true → list_any (has_event (is_loss_of tx.0 (told_of all_told_by idle steps))) (behind_last_sending call.from tx.0 (told_of all_told_by idle steps)) ≡ true
loss_told steps counts tx call run found lost =
    let records = told_of all_told_by idle steps in
    let all = known_run steps (λ n. false) [] idle counts run record { numbered = omega arith; flying = tt; calls = tt } tt in
    let flag = lost_after (λ n. false) idle steps in
    let known = found_sound (λ (other : Call). Known (flag other.tx.0) records other.tx.0 other.from other.owner) (is_call tx) call (reached idle steps).unfinished found all in
    let same : call.tx.0 ≡ tx.0 = eqb-true call.tx.0 tx.0 (found_is tx call (reached idle steps).unfinished found) in
    let here : Known (flag tx.0) records tx.0 call.from call.owner = subst (λ (n : ℕ). Known (flag n) records n call.from call.owner) same known in
    here.loss lost
