-- What a kernel tells of packets is what the acts of the wire are, in their order.
use Rattle.std.proofs.Common.{◌≡◌, ℕ, ◌==◌, Bool, true, false, cond, List, [], ◌∷◌, ◌++◌, map, Option, Some, None, option_map, refl, sym, ap, ap₂, subst, ◌∙◌, append-nil, append_assoc, filter}
use Rattle.std.proofs.lemmas.Bool.{and_parts, eqb-true}
use Rattle.std.proofs.lemmas.List.{map-append}
use Rattle.std.proofs.lemmas.List.Elements.{filter-append}
use Rattle.sprite_ids.specs.declared.TxNo.{TxNo}
use Rattle.sprite_ids.proofs.ListLaws.{some_is}
use Rattle.link_plan.specs.declared.Fate.{Fate}
use Rattle.link_plan.specs.declared.Fate.TheVariants.{Once, Lost, Twice, Late}
use Rattle.unix_calls.specs.declared.Event.{Event}
use Rattle.unix_calls.specs.declared.Event.TheVariants as events
use Rattle.unix_calls.specs.declared.SendKind.TheVariants.{Other}
use Rattle.unix_calls.specs.declared.Rec.{Rec}
use Rattle.kernel_rpc.specs.declared.Call.{Call}
use Rattle.kernel_rpc.specs.Histories.{reached}
use Rattle.kernel_rpc.specs.Machine.{Machine, call_of, may_answer}
use Rattle.kernel_rpc.specs.Runs.{Act, Counts, after}
use Rattle.packet_bodies.specs.declared.ReplyBody.{ReplyBody}
use Rattle.wire_format.specs.declared.Packet.{Packet}
use Rattle.cluster_wire.specs.Calling.{IsBegin, sent_as, sent_by}
use Rattle.cluster_wire.specs.declared.telling.Sent.{Sent}
use Rattle.cluster_wire.specs.Goings.{Going, next_of}
use Rattle.cluster_wire.specs.Noted.{faulted, faulted_all, is_of, is_own, noted_all, noted_one, untold}
use Rattle.cluster_wire.specs.Ran.{EachDone, told_of}
use Rattle.cluster_wire.specs.Replying.{IsAnswer, answered_by, asker, asker_by, caller_of, goes_back, reply_packet}
use Rattle.cluster_wire_laws.specs.Links.{all_told_by, answer_told, bare, bare_event, fault_told, faults_told, is_of_link, of_link, sent_told}
use Rattle.call_journal.specs.Journal.{records_by}

-- what a kernel told of packets
abbrev pub link_told : ℕ → List Event → List Rec
link_told kernel told = of_link (records_by kernel told)

pub link_on : (xs ys : List Rec) → of_link (xs ++ ys) ≡ of_link xs ++ of_link ys
link_on xs ys = ap (map bare) (filter-append (λ (r : Rec). is_of_link r.event) xs ys) ∙ map-append bare (filter (λ (r : Rec). is_of_link r.event) xs) (filter (λ (r : Rec). is_of_link r.event) ys)

-- one event more
one_more : (kernel : ℕ) (told : List Event) (e : Event) (b : Bool) → is_of_link e ≡ b → link_told kernel (told ++ e ∷ []) ≡ link_told kernel told ++ map bare (cond {A = List Rec} b (record { kernel = kernel; event = e } ∷ []) [])
one_more kernel told e b is =
    ap of_link (map-append (λ (event : Event). record { kernel = kernel; event = event }) told (e ∷ []))
    ∙ link_on (records_by kernel told) (record { kernel = kernel; event = e } ∷ [])
    ∙ ap (λ b. link_told kernel told ++ map bare (cond {A = List Rec} b (record { kernel = kernel; event = e } ∷ []) [])) is

pub link_more : (kernel : ℕ) (told : List Event) (e : Event) → is_of_link e ≡ true → link_told kernel (told ++ e ∷ []) ≡ link_told kernel told ++ record { kernel = kernel; event = bare_event e } ∷ []
link_more kernel told e is = one_more kernel told e true is

pub unlinked : (kernel : ℕ) (told : List Event) (e : Event) → is_of_link e ≡ false → link_told kernel (told ++ e ∷ []) ≡ link_told kernel told
unlinked kernel told e is = one_more kernel told e false is ∙ append-nil (link_told kernel told)

-- faults are told
pub fault_linked : (kernel from to : ℕ) (fate : Fate) (told : List Event) → link_told kernel (faulted from to fate told) ≡ link_told kernel told ++ fault_told kernel from to fate
fault_linked kernel from to Once told = sym (append-nil (link_told kernel told))
fault_linked kernel from to Lost told = link_more kernel told (events.Fault from to Lost) refl
fault_linked kernel from to Twice told = link_more kernel told (events.Fault from to Twice) refl
fault_linked kernel from to Late told = link_more kernel told (events.Fault from to Late) refl

pub faults_linked : (kernel : ℕ) (sent : List (ℕ × Fate)) (told : List Event) → link_told kernel (faulted_all kernel sent told) ≡ link_told kernel told ++ faults_told kernel sent
faults_linked kernel [] told = sym (append-nil (link_told kernel told))
faults_linked kernel (packet ∷ sent) told =
    faults_linked kernel sent (faulted kernel packet.0 packet.1 told)
    ∙ ap (λ (xs : List Rec). xs ++ faults_told kernel sent) (fault_linked kernel kernel packet.0 packet.1 told)
    ∙ append_assoc (link_told kernel told) (fault_told kernel kernel packet.0 packet.1) (faults_told kernel sent)

-- what a kernel alone tells is none of it
own_unlinked : (e : Event) → is_own e ≡ true → is_of_link e ≡ false
own_unlinked (events.Send tx to about kind) own = absurd (cc)
own_unlinked (events.Fault from to what) own = absurd (cc)
own_unlinked (events.Deliver tx from reply about) own = absurd (cc)
own_unlinked (events.Expire tx last) own = absurd (cc)
own_unlinked e own = refl

own_none : (kernel : ℕ) (e : Event) (own : Bool) → is_own e ≡ own → (told : List Event) → link_told kernel (cond own (told ++ e ∷ []) told) ≡ link_told kernel told
own_none kernel e true is told = unlinked kernel told e (own_unlinked e is)
own_none kernel e false is told = refl

-- the packets that went out
abbrev pub packets_told : ℕ → List Sent → List Rec
packets_told kernel [] = []
packets_told kernel (packet ∷ packets) = record { kernel = kernel; event = events.Send packet.tx packet.to None Other } ∷ fault_told kernel kernel packet.to packet.fate ++ packets_told kernel packets

-- a sending that is told is of its packet
same_number : (a b : TxNo) → (a.0 == b.0) ≡ true → b ≡ a
same_number a b is = ap (λ (n : ℕ). record { 0 = n }) (sym (eqb-true a.0 b.0 is))

sent_linked : (kernel : ℕ) (e : Event) (packet : Sent) (told : List Event) → is_of e packet ≡ true → link_told kernel (told ++ e ∷ []) ≡ link_told kernel told ++ record { kernel = kernel; event = events.Send packet.tx packet.to None Other } ∷ []
sent_linked kernel (events.Send tx to about kind) packet told is =
    (let parts = and_parts (packet.tx.0 == tx.0) (packet.to == to) is in
    link_more kernel told (events.Send tx to about kind) refl
    ∙ ap₂ (λ (tx : TxNo) (to : ℕ). link_told kernel told ++ record { kernel = kernel; event = events.Send tx to None Other } ∷ []) (same_number packet.tx tx parts.0) (sym (eqb-true packet.to to parts.1)))
sent_linked kernel e packet told is = absurd (cc)

-- all that a kernel did, where each packet that went out is told
pub noted_linked : (kernel : ℕ) (happened : List Event) (sent : List Sent) (told : List Event) → untold happened sent ≡ [] → link_told kernel (noted_all kernel happened sent told) ≡ link_told kernel told ++ packets_told kernel sent
noted_linked kernel [] sent told whole = sym (append-nil (link_told kernel told)) ∙ ap (λ (xs : List Sent). link_told kernel told ++ packets_told kernel xs) (sym whole)
noted_linked kernel (e ∷ happened) [] told whole =
    noted_linked kernel happened [] (noted_one kernel e None told) whole
    ∙ ap (λ (xs : List Rec). xs ++ []) (own_none kernel e (is_own e) refl told)
noted_linked kernel (e ∷ happened) (packet ∷ sent) told whole = by_first (is_of e packet) refl (λ told whole. noted_linked kernel happened sent told whole) (λ told whole. noted_linked kernel happened (packet ∷ sent) told whole) whole
  where
    by_first : (of : Bool) → is_of e packet ≡ of → ((told : List Event) → untold happened sent ≡ [] → link_told kernel (noted_all kernel happened sent told) ≡ link_told kernel told ++ packets_told kernel sent) → ((told : List Event) → untold happened (packet ∷ sent) ≡ [] → link_told kernel (noted_all kernel happened (packet ∷ sent) told) ≡ link_told kernel told ++ packets_told kernel (packet ∷ sent)) → untold happened (cond of sent (packet ∷ sent)) ≡ [] → link_told kernel (noted_all kernel happened (cond of sent (packet ∷ sent)) (noted_one kernel e (cond of (Some packet) None) told)) ≡ link_told kernel told ++ packets_told kernel (packet ∷ sent)
    by_first true is taken left whole =
        taken (faulted kernel packet.to packet.fate (told ++ e ∷ [])) whole
        ∙ ap (λ (xs : List Rec). xs ++ packets_told kernel sent) (fault_linked kernel kernel packet.to packet.fate (told ++ e ∷ []))
        ∙ append_assoc (link_told kernel (told ++ e ∷ [])) (fault_told kernel kernel packet.to packet.fate) (packets_told kernel sent)
        ∙ ap (λ (xs : List Rec). xs ++ (fault_told kernel kernel packet.to packet.fate ++ packets_told kernel sent)) (sent_linked kernel e packet told is)
        ∙ append_assoc (link_told kernel told) (record { kernel = kernel; event = events.Send packet.tx packet.to None Other } ∷ []) (fault_told kernel kernel packet.to packet.fate ++ packets_told kernel sent)
    by_first false is taken left whole = left (noted_one kernel e None told) whole ∙ ap (λ (xs : List Rec). xs ++ packets_told kernel (packet ∷ sent)) (own_none kernel e (is_own e) refl told)

-- acts of one run and then of another
pub all_join : (xs ys : List (Act × Counts)) (machine : Machine) → told_of all_told_by machine (xs ++ ys) ≡ told_of all_told_by machine xs ++ told_of all_told_by (reached machine xs) ys
all_join [] ys machine = refl
all_join (x ∷ xs) ys machine = ap (λ rest. all_told_by machine x.0 ++ rest) (all_join xs ys (after machine x.0)) ∙ sym (append_assoc (all_told_by machine x.0) (told_of all_told_by (after machine x.0) xs) (told_of all_told_by (reached (after machine x.0) xs) ys))

-- things that are done in their order: what is kept of them tells their acts, where that of each one does
record Tells {A P X : Type 0} (plan : Machine → A → Option P) (is : Machine → P → Act → Type 0) (tells : Machine → Act → List X) (says : List X → List Rec) : Type 0 where
  none : says [] ≡ []
  more : (xs ys : List X) → says (xs ++ ys) ≡ says xs ++ says ys
  one : (machine : Machine) (x : A) (p : P) (act : Act) → plan machine x ≡ Some p → is machine p act → says (tells machine act) ≡ all_told_by machine act

each_tells : {A P X : Type 0} (plan : Machine → A → Option P) (is : Machine → P → Act → Type 0) (tells : Machine → Act → List X) (says : List X → List Rec) → Tells plan is tells says → (xs : List A) (machine : Machine) (steps : List (Act × Counts)) → EachDone plan is xs machine steps → says (told_of tells machine steps) ≡ told_of all_told_by machine steps
each_tells plan is tells says given [] machine steps done = subst (λ (steps : List (Act × Counts)). says (told_of tells machine steps) ≡ told_of all_told_by machine steps) (sym done) given.none
each_tells plan is tells says given (x ∷ xs) machine [] done = absurd done
each_tells plan is tells says given (x ∷ xs) machine (step ∷ steps) done =
    given.more (tells machine step.0) (told_of tells (after machine step.0) steps)
    ∙ ap₂ (λ (xs ys : List Rec). xs ++ ys) (given.one machine x done.0.way step.0 done.0.planned done.0.done) (each_tells plan is tells says given xs (after machine step.0) steps done.1)

-- calls that begin
packets_join : (kernel : ℕ) (xs ys : List Sent) → packets_told kernel (xs ++ ys) ≡ packets_told kernel xs ++ packets_told kernel ys
packets_join kernel [] ys = refl
packets_join kernel (x ∷ xs) ys =
    ap (λ (rest : List Rec). record { kernel = kernel; event = events.Send x.tx x.to None Other } ∷ fault_told kernel kernel x.to x.fate ++ rest) (packets_join kernel xs ys)
    ∙ ap (λ (rest : List Rec). record { kernel = kernel; event = events.Send x.tx x.to None Other } ∷ rest) (sym (append_assoc (fault_told kernel kernel x.to x.fate) (packets_told kernel xs) (packets_told kernel ys)))

packets_as : (kernel : ℕ) (tx : TxNo) (fates : List (ℕ × Fate)) → packets_told kernel (map (sent_as tx) fates) ≡ sent_told kernel tx fates
packets_as kernel tx [] = refl
packets_as kernel tx (packet ∷ fates) = ap (λ (rest : List Rec). record { kernel = kernel; event = events.Send tx packet.0 None Other } ∷ fault_told kernel kernel packet.0 packet.1 ++ rest) (packets_as kernel tx fates)

begin_tells : (kernel : ℕ) (machine : Machine) (going : Going) (act : Act) → IsBegin kernel machine going act → packets_told kernel (sent_by machine act) ≡ all_told_by machine act
begin_tells kernel machine going act is = subst (λ (act : Act). packets_told kernel (sent_by machine act) ≡ all_told_by machine act) (sym is.is) (packets_as kernel (next_of machine) is.fates)

pub begun_tells : {A : Type 0} (kernel : ℕ) (plan : Machine → A → Option Going) (xs : List A) (machine : Machine) (steps : List (Act × Counts)) → EachDone plan (IsBegin kernel) xs machine steps → packets_told kernel (told_of sent_by machine steps) ≡ told_of all_told_by machine steps
begun_tells kernel plan = each_tells plan (IsBegin kernel) sent_by (packets_told kernel) (record { none = refl; more = packets_join kernel; one = λ machine x going act planned is. begin_tells kernel machine going act is })

-- calls that are answered
faults_join : (kernel : ℕ) (xs ys : List (ℕ × Fate)) → faults_told kernel (xs ++ ys) ≡ faults_told kernel xs ++ faults_told kernel ys
faults_join kernel [] ys = refl
faults_join kernel (x ∷ xs) ys =
    ap (λ (rest : List Rec). fault_told kernel kernel x.0 x.1 ++ rest) (faults_join kernel xs ys)
    ∙ sym (append_assoc (fault_told kernel kernel x.0 x.1) (faults_told kernel xs) (faults_told kernel ys))

-- who waits for an answer of the kernel calls it
record Asks (kernel : ℕ) (o : Option Call) (to : ℕ) : Type 0 where
  call : Call
  found : o ≡ Some call
  owns : call.owner ≡ kernel

asker_owns : (kernel : ℕ) (may : Bool) (o : Option Call) (to : ℕ) → asker_by may kernel o ≡ Some to → Asks kernel o to
asker_owns kernel may None to is = absurd (cc)
asker_owns kernel false (Some call) to is = absurd (cc)
asker_owns kernel true (Some call) to is = by_owner (call.owner == kernel) refl is
  where
    by_owner : (own : Bool) → (call.owner == kernel) ≡ own → cond own (Some call.from) None ≡ Some to → Asks kernel (Some call) to
    by_owner true owns is = record { call = call; found = refl; owns = eqb-true call.owner kernel owns }
    by_owner false owns is = absurd (cc)

record Planned (kernel : ℕ) (machine : Machine) (answer : TxNo × ReplyBody) (packet : Packet) : Type 0 where
  to : ℕ
  asks : asker kernel machine answer.0 ≡ Some to
  is : packet ≡ reply_packet kernel answer to

planned_by : (kernel : ℕ) (machine : Machine) (answer : TxNo × ReplyBody) (packet : Packet) (o : Option ℕ) → asker kernel machine answer.0 ≡ o → option_map (reply_packet kernel answer) o ≡ Some packet → Planned kernel machine answer packet
planned_by kernel machine answer packet None asks is = absurd (cc)
planned_by kernel machine answer packet (Some to) asks is = record { to = to; asks = asks; is = sym (some_is (reply_packet kernel answer to) packet is) }

answered_tells : (kernel : ℕ) (given : Fate) (call : Call) → call.owner ≡ kernel → fault_told kernel kernel call.from given ++ [] ≡ fault_told call.owner call.owner call.from given
answered_tells kernel given call owns = append-nil (fault_told kernel kernel call.from given) ∙ ap (λ (k : ℕ). fault_told k k call.from given) (sym owns)

answer_tells : (kernel : ℕ) (machine : Machine) (answer : TxNo × ReplyBody) (packet : Packet) (act : Act) → goes_back kernel machine answer ≡ Some packet → IsAnswer machine packet act → faults_told kernel (answered_by machine act) ≡ all_told_by machine act
answer_tells kernel machine answer packet act planned is =
    (let plan = planned_by kernel machine answer packet (asker kernel machine answer.0) refl planned in
    let asks = asker_owns kernel (may_answer machine answer.0) (call_of machine answer.0) plan.to plan.asks in
    let found : call_of machine packet.tx ≡ Some asks.call = ap (λ (p : Packet). call_of machine p.tx) plan.is ∙ asks.found in
    subst (λ (act : Act). faults_told kernel (answered_by machine act) ≡ all_told_by machine act) (sym is.is)
    (subst (λ (o : Option Call). faults_told kernel ((caller_of o, is.given) ∷ []) ≡ answer_told is.given o) (sym found) (answered_tells kernel is.given asks.call asks.owns)))

pub answers_tell : (kernel : ℕ) (xs : List (TxNo × ReplyBody)) (machine : Machine) (steps : List (Act × Counts)) → EachDone (goes_back kernel) IsAnswer xs machine steps → faults_told kernel (told_of answered_by machine steps) ≡ told_of all_told_by machine steps
answers_tell kernel = each_tells (goes_back kernel) IsAnswer answered_by (faults_told kernel) (record { none = refl; more = faults_join kernel; one = λ machine x packet act planned is. answer_tells kernel machine x packet act planned is })
