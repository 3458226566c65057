-- Each record that a packet came stands behind sendings enough.
use Rattle.std.proofs.Common.{arith, ◌≡◌, ℕ, ◌+◌, ◌*◌, ◌≤◌, ◌==◌, Bool, true, false, ◌&&◌, not, cond, List, [], ◌∷◌, ◌++◌, Option, Some, None, count_by, refl, sym, ap, ap₂, subst, ◌∙◌, append-nil, append_assoc}
use Rattle.std.specs.List.{AllByRecursion}
use Rattle.std.proofs.lemmas.Bool.{and_parts, le-leb}
use Rattle.sprite_ids.specs.declared.TxNo.{TxNo}
use Rattle.sprite_ids.proofs.ListLaws.{each_append}
use Rattle.link_plan.specs.declared.Fate.{Fate}
use Rattle.link_plan.specs.declared.Fate.TheVariants.{Once, Lost, Twice, Late}
use Rattle.kernel_rpc.specs.declared.Arrival.{Arrival}
use Rattle.kernel_rpc.specs.declared.Arrival.TheVariants.{FirstRequest, FirstReply, AskedAgain, Past}
use Rattle.kernel_rpc.specs.declared.Call.{Call}
use Rattle.kernel_rpc.specs.declared.PacketCopy.{PacketCopy}
use Rattle.kernel_rpc.specs.Histories.{reached, times}
use Rattle.kernel_rpc.specs.Machine.{Machine, arrival, call_of, copy_of, idle, is_last}
use Rattle.kernel_rpc.specs.Runs.{Act, Begin, Deliver, Answer, Silence, Expire, Counts, IsRun, after, once_if}
use Rattle.kernel_rpc.proofs.PartLaws.{both_true, eq_same}
use Rattle.unix_calls.specs.declared.Event.{Event}
use Rattle.unix_calls.specs.declared.Event.TheVariants as events
use Rattle.unix_calls.specs.declared.SendKind.TheVariants.{Other}
use Rattle.unix_calls.specs.declared.Rec.{Rec}
use Rattle.call_journal.specs.Matching.{has_event, is_expire, is_send_to}
use Rattle.call_journal.specs.WorthPackets.{deliveries, is_delivered_at, sendings}
use Rattle.cluster_wire.specs.Goings.{next_of}
use Rattle.cluster_wire.specs.Ran.{told_of}
use Rattle.cluster_choices.specs.Acts.{delivery}
use Rattle.cluster_wire_laws.specs.Links.{again_told, all_told_by, answer_told, came_told, fault_told, faults_told, fired_told, of_link, sent_told}
use Rattle.cluster_wire_laws.specs.Told.{begins_to, is_packet_of, sends_again, tells_again, tells_packet}
use Rattle.cluster_wire_laws.specs.Traces.{records_so}
use Rattle.cluster_wire_laws.proofs.FewLaws.{either_packet, six_by}
use Rattle.cluster_wire_laws.proofs.LinkLaws.{all_join, link_on}
use Rattle.cluster_wire_laws.proofs.PlaceLaws.{run_wire}
use Rattle.cluster_wire_laws.proofs.SendingLaws.{begins_are_told}
use Rattle.cluster_wire_laws.proofs.SixLaws.{six_of}
use Rattle.cluster_wire_laws.proofs.TallyLaws.{agains_so, first_of, packets_so}
use Rattle.packet_laws.specs.Deliveries.{EachWasSent}
use Rattle.packet_laws.specs.Expiries.{OfRuns}
use Rattle.packet_laws.proofs.BareLaws.{deliveries_link, sendings_link}
use Rattle.packet_laws.proofs.CreditLaws.{count_more, count_on}
use Rattle.packet_laws.proofs.ExpiryLaws.{run_front}

-- what is told of a run tells of packets alone, and not what a sending is for
fault_stays : (kernel from to : ℕ) (fate : Fate) → of_link (fault_told kernel from to fate) ≡ fault_told kernel from to fate
fault_stays kernel from to Once = refl
fault_stays kernel from to Lost = refl
fault_stays kernel from to Twice = refl
fault_stays kernel from to Late = refl

faults_stay : (kernel : ℕ) (sent : List (ℕ × Fate)) → of_link (faults_told kernel sent) ≡ faults_told kernel sent
faults_stay kernel [] = refl
faults_stay kernel (packet ∷ sent) = link_on (fault_told kernel kernel packet.0 packet.1) (faults_told kernel sent) ∙ ap₂ (λ (xs ys : List Rec). xs ++ ys) (fault_stays kernel kernel packet.0 packet.1) (faults_stay kernel sent)

sent_stays : (kernel : ℕ) (tx : TxNo) (sent : List (ℕ × Fate)) → of_link (sent_told kernel tx sent) ≡ sent_told kernel tx sent
sent_stays kernel tx [] = refl
sent_stays kernel tx (packet ∷ sent) = ap (λ (xs : List Rec). record { kernel = kernel; event = events.Send tx packet.0 None Other } ∷ xs) (link_on (fault_told kernel kernel packet.0 packet.1) (sent_told kernel tx sent) ∙ ap₂ (λ (xs ys : List Rec). xs ++ ys) (fault_stays kernel kernel packet.0 packet.1) (sent_stays kernel tx sent))

again_stays : (what : Arrival) (kernel : ℕ) (given : Fate) (o : Option Call) → of_link (again_told what kernel given o) ≡ again_told what kernel given o
again_stays FirstRequest kernel given o = refl
again_stays FirstReply kernel given o = refl
again_stays AskedAgain kernel given None = refl
again_stays AskedAgain kernel given (Some call) = fault_stays kernel call.owner call.from given
again_stays Past kernel given o = refl

came_stays : (machine : Machine) (given : Fate) (o : Option PacketCopy) → of_link (came_told machine given o) ≡ came_told machine given o
came_stays machine given None = refl
came_stays machine given (Some copy) = ap (λ (xs : List Rec). record { kernel = copy.to; event = delivery copy } ∷ xs) (again_stays (arrival machine copy) copy.to given (call_of machine copy.tx))

answer_stays : (given : Fate) (o : Option Call) → of_link (answer_told given o) ≡ answer_told given o
answer_stays given None = refl
answer_stays given (Some call) = fault_stays call.owner call.owner call.from given

fired_stays : (tx : TxNo) (sent : List (ℕ × Fate)) (o : Option Call) → of_link (fired_told tx sent o) ≡ fired_told tx sent o
fired_stays tx sent None = refl
fired_stays tx sent (Some call) = ap (λ (xs : List Rec). record { kernel = call.from; event = events.Expire tx (is_last call) } ∷ xs) (elim (is_last call) as (λ b. of_link (cond {A = List Rec} b [] (faults_told call.from sent)) ≡ cond {A = List Rec} b [] (faults_told call.from sent)) [ true ↦ refl | false ↦ faults_stay call.from sent ])

act_stays : (machine : Machine) (act : Act) → of_link (all_told_by machine act) ≡ all_told_by machine act
act_stays machine (Begin from port servers owner body tries about before sent) = sent_stays from (next_of machine) sent
act_stays machine (Deliver number given) = came_stays machine given (copy_of machine number)
act_stays machine (Answer tx body given) = answer_stays given (call_of machine tx)
act_stays machine (Silence tx at) = refl
act_stays machine (Expire tx sent) = fired_stays tx sent (call_of machine tx)

run_stays : (steps : List (Act × Counts)) (machine : Machine) → of_link (told_of all_told_by machine steps) ≡ told_of all_told_by machine steps
run_stays [] machine = refl
run_stays (step ∷ steps) machine = link_on (all_told_by machine step.0) (told_of all_told_by (after machine step.0) steps) ∙ ap₂ (λ (xs ys : List Rec). xs ++ ys) (act_stays machine step.0) (run_stays steps (after machine step.0))

-- a delivery is a record of a packet of its call, and a request that is sent again one that a try is over
delivered_packet : (tx receiver : ℕ) (r : Rec) (e : Event) → is_delivered_at tx receiver r e ≡ true → tells_packet tx receiver r.kernel e ≡ true
delivered_packet tx receiver r (events.Deliver key from reply about) h = h
delivered_packet tx receiver r e h = absurd (cc)

again_expires : (tx kernel : ℕ) (e : Event) → tells_again tx kernel e ≡ true → is_expire tx e ≡ true
again_expires tx kernel (events.Expire key last) h = (and_parts (key.0 == tx) (not last) h).0
again_expires tx kernel e h = absurd (cc)

few_come : (tx receiver : ℕ) (counts : Counts) (steps : List (Act × Counts)) → IsRun idle counts steps → deliveries tx receiver (told_of all_told_by idle steps) ≤ 6 * sendings tx receiver (told_of all_told_by idle steps)
few_come tx receiver counts steps run =
    (let trace = told_of all_told_by idle steps in
    let order = run_wire steps idle in
    let packets = packets_so tx receiver trace steps idle order in
    let again = agains_so tx trace steps idle order in
    let most = six_of tx receiver (is_packet_of tx receiver) counts steps (λ copy. either_packet (copy.tx.0 == tx) copy.reply (copy.from == receiver) (copy.to == receiver)) run in
    let six = six_by tx receiver (times (sends_again tx) idle steps) counts steps (times (begins_to tx receiver) idle steps) run most refl in
    let began = begins_are_told tx receiver trace steps idle (run_stays steps idle) in
    let came : deliveries tx receiver trace ≤ records_so (tells_packet tx receiver) trace = count_more (λ (r : Rec). is_delivered_at tx receiver r r.event) (λ (r : Rec). tells_packet tx receiver r.kernel r.event) trace (λ r. delivered_packet tx receiver r r.event) in
    let over : records_so (tells_again tx) trace ≤ count_by (has_event (is_expire tx)) trace = count_more (λ (r : Rec). tells_again tx r.kernel r.event) (has_event (is_expire tx)) trace (λ r. again_expires tx r.kernel r.event) in omega arith)

-- each record among others that come behind these, that a packet of the call came, has sendings enough before it
abbrev Enough : ℕ → ℕ → List Rec → Type 0
Enough tx receiver records = deliveries tx receiver records + 1 ≤ 6 * sendings tx receiver records

abbrev EachEnough : ℕ → ℕ → List Rec → List Rec → Type 0
EachEnough tx receiver records [] = Unit {0}
EachEnough tx receiver records (r ∷ told) = (is_delivered_at tx receiver r r.event ≡ true → Enough tx receiver records) × EachEnough tx receiver (records ++ r ∷ []) told

enough_on : (tx receiver : ℕ) (first next records : List Rec) → EachEnough tx receiver records first → EachEnough tx receiver (records ++ first) next → EachEnough tx receiver records (first ++ next)
enough_on tx receiver [] next records h k = subst (λ (xs : List Rec). EachEnough tx receiver xs next) (append-nil records) k
enough_on tx receiver (r ∷ first) next records h k = (h.0, enough_on tx receiver first next (records ++ r ∷ []) h.1 (subst (λ (xs : List Rec). EachEnough tx receiver xs next) (sym (append_assoc records (r ∷ []) first)) k))

enough_at : (tx receiver : ℕ) (before rest records : List Rec) (r : Rec) → EachEnough tx receiver records (before ++ r ∷ rest) → is_delivered_at tx receiver r r.event ≡ true → Enough tx receiver (records ++ before)
enough_at tx receiver [] rest records r h is = subst (Enough tx receiver) (sym (append-nil records)) (h.0 is)
enough_at tx receiver (x ∷ before) rest records r h is = subst (Enough tx receiver) (append_assoc records (x ∷ []) before) (enough_at tx receiver before rest (records ++ x ∷ []) r h.1 is)

-- records of no delivery
abbrev NoneComes : ℕ → ℕ → List Rec → Type 0
NoneComes tx receiver told = AllByRecursion (λ (r : Rec). is_delivered_at tx receiver r r.event ≡ false) told

none_enough : (tx receiver : ℕ) (told records : List Rec) → NoneComes tx receiver told → EachEnough tx receiver records told
none_enough tx receiver [] records none = tt
none_enough tx receiver (r ∷ told) records none = (λ is. absurd (let no = none.0 in cc), none_enough tx receiver told (records ++ r ∷ []) none.1)

fault_none : (tx receiver kernel from to : ℕ) (fate : Fate) → NoneComes tx receiver (fault_told kernel from to fate)
fault_none tx receiver kernel from to Once = tt
fault_none tx receiver kernel from to Lost = (refl, tt)
fault_none tx receiver kernel from to Twice = (refl, tt)
fault_none tx receiver kernel from to Late = (refl, tt)

faults_none : (tx receiver kernel : ℕ) (sent : List (ℕ × Fate)) → NoneComes tx receiver (faults_told kernel sent)
faults_none tx receiver kernel [] = tt
faults_none tx receiver kernel (packet ∷ sent) = each_append (λ (r : Rec). is_delivered_at tx receiver r r.event ≡ false) (fault_told kernel kernel packet.0 packet.1) (faults_told kernel sent) (fault_none tx receiver kernel kernel packet.0 packet.1) (faults_none tx receiver kernel sent)

sent_none : (tx receiver kernel : ℕ) (key : TxNo) (sent : List (ℕ × Fate)) → NoneComes tx receiver (sent_told kernel key sent)
sent_none tx receiver kernel key [] = tt
sent_none tx receiver kernel key (packet ∷ sent) = (refl, each_append (λ (r : Rec). is_delivered_at tx receiver r r.event ≡ false) (fault_told kernel kernel packet.0 packet.1) (sent_told kernel key sent) (fault_none tx receiver kernel kernel packet.0 packet.1) (sent_none tx receiver kernel key sent))

again_none : (tx receiver : ℕ) (what : Arrival) (kernel : ℕ) (given : Fate) (o : Option Call) → NoneComes tx receiver (again_told what kernel given o)
again_none tx receiver FirstRequest kernel given o = tt
again_none tx receiver FirstReply kernel given o = tt
again_none tx receiver AskedAgain kernel given None = tt
again_none tx receiver AskedAgain kernel given (Some call) = fault_none tx receiver kernel call.owner call.from given
again_none tx receiver Past kernel given o = tt

answer_none : (tx receiver : ℕ) (given : Fate) (o : Option Call) → NoneComes tx receiver (answer_told given o)
answer_none tx receiver given None = tt
answer_none tx receiver given (Some call) = fault_none tx receiver call.owner call.owner call.from given

fired_none : (tx receiver : ℕ) (key : TxNo) (sent : List (ℕ × Fate)) (o : Option Call) → NoneComes tx receiver (fired_told key sent o)
fired_none tx receiver key sent None = tt
fired_none tx receiver key sent (Some call) = (refl, elim (is_last call) as (λ b. NoneComes tx receiver (cond {A = List Rec} b [] (faults_told call.from sent))) [ true ↦ tt | false ↦ faults_none tx receiver call.from sent ])

-- nothing is sent where a copy comes
fault_unsent : (tx receiver kernel from to : ℕ) (fate : Fate) → sendings tx receiver (fault_told kernel from to fate) ≡ 0
fault_unsent tx receiver kernel from to Once = refl
fault_unsent tx receiver kernel from to Lost = refl
fault_unsent tx receiver kernel from to Twice = refl
fault_unsent tx receiver kernel from to Late = refl

again_unsent : (tx receiver : ℕ) (what : Arrival) (kernel : ℕ) (given : Fate) (o : Option Call) → sendings tx receiver (again_told what kernel given o) ≡ 0
again_unsent tx receiver FirstRequest kernel given o = refl
again_unsent tx receiver FirstReply kernel given o = refl
again_unsent tx receiver AskedAgain kernel given None = refl
again_unsent tx receiver AskedAgain kernel given (Some call) = fault_unsent tx receiver kernel call.owner call.from given
again_unsent tx receiver Past kernel given o = refl

-- so where few came in all, those sendings are before it
came_enough : (tx receiver : ℕ) (records : List Rec) (machine : Machine) (given : Fate) (o : Option PacketCopy) → deliveries tx receiver (records ++ came_told machine given o) ≤ 6 * sendings tx receiver (records ++ came_told machine given o) → EachEnough tx receiver records (came_told machine given o)
came_enough tx receiver records machine given None few = tt
came_enough tx receiver records machine given (Some copy) few =
    let r : Rec = record { kernel = copy.to; event = delivery copy } in
    let again = again_told (arrival machine copy) copy.to given (call_of machine copy.tx) in (
      λ is. (let came = count_on (λ (r : Rec). is_delivered_at tx receiver r r.event) records (r ∷ again) in
          let first = first_of (λ (r : Rec). is_delivered_at tx receiver r r.event) r again in
          let one = ap once_if is in
          let sent = count_on (has_event (is_send_to tx receiver)) records (r ∷ again) in
          let over = count_on (has_event (is_expire tx)) records (r ∷ again) in
          let no_send = first_of (has_event (is_send_to tx receiver)) r again in
          let no_expire = first_of (has_event (is_expire tx)) r again in
          let none = again_unsent tx receiver (arrival machine copy) copy.to given (call_of machine copy.tx) in omega arith),
      none_enough tx receiver again (records ++ r ∷ []) (again_none tx receiver (arrival machine copy) copy.to given (call_of machine copy.tx)),
    )

act_enough : (tx receiver : ℕ) (records : List Rec) (machine : Machine) (act : Act) → deliveries tx receiver (records ++ all_told_by machine act) ≤ 6 * sendings tx receiver (records ++ all_told_by machine act) → EachEnough tx receiver records (all_told_by machine act)
act_enough tx receiver records machine (Begin from port servers owner body tries about before sent) few = none_enough tx receiver (sent_told from (next_of machine) sent) records (sent_none tx receiver from (next_of machine) sent)
act_enough tx receiver records machine (Deliver number given) few = came_enough tx receiver records machine given (copy_of machine number) few
act_enough tx receiver records machine (Answer key body given) few = none_enough tx receiver (answer_told given (call_of machine key)) records (answer_none tx receiver given (call_of machine key))
act_enough tx receiver records machine (Silence key at) few = tt
act_enough tx receiver records machine (Expire key sent) few = none_enough tx receiver (fired_told key sent (call_of machine key)) records (fired_none tx receiver key sent (call_of machine key))

reached_on : (done steps : List (Act × Counts)) (machine : Machine) → reached machine (done ++ steps) ≡ reached (reached machine done) steps
reached_on [] steps machine = refl
reached_on (step ∷ done) steps machine = reached_on done steps (after machine step.0)

run_enough : (tx receiver : ℕ) (first : Counts) (steps done : List (Act × Counts)) → IsRun idle first (done ++ steps) → EachEnough tx receiver (told_of all_told_by idle done) (told_of all_told_by (reached idle done) steps)
run_enough tx receiver first [] done run = tt
run_enough tx receiver first (step ∷ steps) done run =
    let more = done ++ step ∷ [] in
    let machine = reached idle done in
    let records = told_of all_told_by idle done in
    let told = all_told_by machine step.0 in
    let longer : IsRun idle first (more ++ steps) = subst (IsRun idle first) (sym (append_assoc done (step ∷ []) steps)) run in
    let written : told_of all_told_by idle more ≡ records ++ told = all_join done (step ∷ []) idle ∙ ap (λ (xs : List Rec). records ++ xs) (append-nil told) in
    let few = subst (λ (xs : List Rec). deliveries tx receiver xs ≤ 6 * sendings tx receiver xs) written (few_come tx receiver first more (run_front more steps idle first longer)) in
    let behind = subst (λ (m : Machine). EachEnough tx receiver (told_of all_told_by idle more) (told_of all_told_by m steps)) (reached_on done (step ∷ []) idle) (run_enough tx receiver first steps more longer) in
    let next = told_of all_told_by (after machine step.0) steps in
    enough_on tx receiver told next records (act_enough tx receiver records machine step.0 few) (subst (λ (xs : List Rec). EachEnough tx receiver xs next) written behind)

own_receiver : (reply : Bool) (from kernel : ℕ) → cond reply (from == cond {A = ℕ} reply from kernel) (kernel == cond {A = ℕ} reply from kernel) ≡ true
own_receiver true from kernel = eq_same from
own_receiver false from kernel = eq_same kernel

pub was_sent_for_each : OfRuns EachWasSent
was_sent_for_each first steps trace run told fires past rest kernel tx from reply about written =
    let r : Rec = record { kernel = kernel; event = events.Deliver tx from reply about } in
    let receiver = cond {A = ℕ} reply from kernel in
    let all : told_of all_told_by idle steps ≡ of_link past.records ++ r ∷ of_link rest = sym told ∙ ap of_link written ∙ link_on past.records (r ∷ rest) in
    let each = subst (EachEnough tx.0 receiver []) all (run_enough tx.0 receiver first steps [] run) in
    let enough = enough_at tx.0 receiver (of_link past.records) (of_link rest) [] r each (both_true (tx.0 == tx.0) (cond reply (from == receiver) (kernel == receiver)) (eq_same tx.0) (own_receiver reply from kernel)) in
    let came = deliveries_link tx.0 receiver past.records in
    let out = sendings_link tx.0 receiver past.records in
    le-leb (deliveries tx.0 receiver past.records + 1) (6 * sendings tx.0 receiver past.records) (omega arith)
