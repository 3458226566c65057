-- The records before one that a timer fired tell exactly the acts before that.
use Rattle.std.proofs.Common.{◌≡◌, ℕ, Bool, true, false, cond, List, [], ◌∷◌, ◌++◌, map, Option, Some, None, refl, sym, ap, ap₂, ◌∙◌, filter}
use Rattle.sprite_ids.specs.declared.TxNo.{TxNo}
use Rattle.link_plan.specs.declared.Fate.{Fate}
use Rattle.link_plan.specs.declared.Fate.TheVariants.{Once, Lost, Twice, Late}
use Rattle.kernel_rpc.specs.declared.Arrival.{Arrival}
use Rattle.kernel_rpc.specs.declared.Arrival.TheVariants.{FirstRequest, FirstReply, AskedAgain, Past}
use Rattle.kernel_rpc.specs.declared.Call.{Call}
use Rattle.kernel_rpc.specs.declared.PacketCopy.{PacketCopy}
use Rattle.kernel_rpc.specs.Machine.{Machine, arrival, call_of, copy_of, is_last}
use Rattle.kernel_rpc.specs.Runs.{Act, Begin, Deliver, Answer, Silence, Expire, Counts, after}
use Rattle.unix_calls.specs.declared.Event.{Event}
use Rattle.unix_calls.specs.declared.Event.TheVariants as events
use Rattle.unix_calls.specs.declared.Rec.{Rec}
use Rattle.cluster_wire.specs.Goings.{next_of}
use Rattle.cluster_wire.specs.Ran.{told_of}
use Rattle.cluster_choices.specs.Acts.{delivery}
use Rattle.cluster_wire_laws.specs.Links.{again_told, all_told_by, answer_told, back_told, bare, bare_event, came_told, fault_told, faults_told, fired_told, is_of_link, of_link, sent_told}
use Rattle.cluster_wire_laws.specs.Orders.{copy_told, firing_told, is_of_wire, of_wire, told_by}
use Rattle.cluster_wire_laws.proofs.OrderLaws.{wire_on}

-- copies and timers among all that is told of packets
of_both : (e : Event) → is_of_wire e ≡ true → (is_of_link e ≡ true) × (bare_event e ≡ e)
of_both (events.Deliver tx from reply about) is = (refl, refl)
of_both (events.Expire tx last) is = (refl, refl)
of_both e is = absurd (cc)

bare_none : (e : Event) → is_of_wire e ≡ false → is_of_wire (bare_event e) ≡ false
bare_none (events.Send tx to about kind) is = refl
bare_none e is = is

pub wire_in_link : (trace : List Rec) → of_wire (of_link trace) ≡ of_wire trace
wire_in_link [] = refl
wire_in_link (r ∷ trace) = by_wire (is_of_wire r.event) refl (wire_in_link trace)
  where
    by_link : (of : Bool) → is_of_wire r.event ≡ false → of_wire (of_link trace) ≡ of_wire trace → of_wire (map bare (cond {A = List Rec} of (r ∷ filter (λ (r : Rec). is_of_link r.event) trace) (filter (λ (r : Rec). is_of_link r.event) trace))) ≡ of_wire trace
    by_link true is rest = ap (λ (b : Bool). cond {A = List Rec} b (bare r ∷ of_wire (of_link trace)) (of_wire (of_link trace))) (bare_none r.event is) ∙ rest
    by_link false is rest = rest

    by_wire : (of : Bool) → is_of_wire r.event ≡ of → of_wire (of_link trace) ≡ of_wire trace → of_wire (of_link (r ∷ trace)) ≡ cond {A = List Rec} of (r ∷ of_wire trace) (of_wire trace)
    by_wire true is rest =
        (let both = of_both r.event is in
        ap (λ (b : Bool). of_wire (map bare (cond {A = List Rec} b (r ∷ filter (λ (r : Rec). is_of_link r.event) trace) (filter (λ (r : Rec). is_of_link r.event) trace)))) both.0
        ∙ ap (λ (e : Event). cond {A = List Rec} (is_of_wire e) (record { kernel = r.kernel; event = e } ∷ of_wire (of_link trace)) (of_wire (of_link trace))) both.1
        ∙ ap (λ (b : Bool). cond {A = List Rec} b (r ∷ of_wire (of_link trace)) (of_wire (of_link trace))) is
        ∙ ap (λ (xs : List Rec). r ∷ xs) rest)
    by_wire false is rest = by_link (is_of_link r.event) is rest

-- of an act
fault_none : (kernel from to : ℕ) (fate : Fate) → of_wire (fault_told kernel from to fate) ≡ []
fault_none kernel from to Once = refl
fault_none kernel from to Lost = refl
fault_none kernel from to Twice = refl
fault_none kernel from to Late = refl

faults_none : (kernel : ℕ) (packets : List (ℕ × Fate)) → of_wire (faults_told kernel packets) ≡ []
faults_none kernel [] = refl
faults_none kernel (packet ∷ packets) = wire_on (fault_told kernel kernel packet.0 packet.1) (faults_told kernel packets) ∙ ap₂ (λ (xs ys : List Rec). xs ++ ys) (fault_none kernel kernel packet.0 packet.1) (faults_none kernel packets)

sent_none : (kernel : ℕ) (tx : TxNo) (packets : List (ℕ × Fate)) → of_wire (sent_told kernel tx packets) ≡ []
sent_none kernel tx [] = refl
sent_none kernel tx (packet ∷ packets) = wire_on (fault_told kernel kernel packet.0 packet.1) (sent_told kernel tx packets) ∙ ap₂ (λ (xs ys : List Rec). xs ++ ys) (fault_none kernel kernel packet.0 packet.1) (sent_none kernel tx packets)

back_none : (kernel : ℕ) (given : Fate) (o : Option Call) → of_wire (back_told kernel given o) ≡ []
back_none kernel given None = refl
back_none kernel given (Some call) = fault_none kernel call.owner call.from given

again_none : (what : Arrival) (kernel : ℕ) (given : Fate) (o : Option Call) → of_wire (again_told what kernel given o) ≡ []
again_none FirstRequest kernel given o = refl
again_none FirstReply kernel given o = refl
again_none AskedAgain kernel given o = back_none kernel given o
again_none Past kernel given o = refl

came_one : (machine : Machine) (given : Fate) (o : Option PacketCopy) → of_wire (came_told machine given o) ≡ copy_told o
came_one machine given None = refl
came_one machine given (Some copy) = ap (λ (xs : List Rec). record { kernel = copy.to; event = delivery copy } ∷ xs) (again_none (arrival machine copy) copy.to given (call_of machine copy.tx))

answer_none : (given : Fate) (o : Option Call) → of_wire (answer_told given o) ≡ []
answer_none given None = refl
answer_none given (Some call) = fault_none call.owner call.owner call.from given

fired_one : (tx : TxNo) (sent : List (ℕ × Fate)) (o : Option Call) → of_wire (fired_told tx sent o) ≡ firing_told tx o
fired_one tx sent None = refl
fired_one tx sent (Some call) = ap (λ (xs : List Rec). record { kernel = call.from; event = events.Expire tx (is_last call) } ∷ xs) (by_last (is_last call))
  where
    by_last : (last : Bool) → of_wire (cond {A = List Rec} last [] (faults_told call.from sent)) ≡ []
    by_last true = refl
    by_last false = faults_none call.from sent

act_wire : (machine : Machine) (act : Act) → of_wire (all_told_by machine act) ≡ told_by machine act
act_wire machine (Begin from port servers owner body tries about before sent) = sent_none from (next_of machine) sent
act_wire machine (Deliver number given) = came_one machine given (copy_of machine number)
act_wire machine (Answer tx body given) = answer_none given (call_of machine tx)
act_wire machine (Silence tx at) = refl
act_wire machine (Expire tx sent) = fired_one tx sent (call_of machine tx)

pub run_wire : (steps : List (Act × Counts)) (machine : Machine) → of_wire (told_of all_told_by machine steps) ≡ told_of told_by machine steps
run_wire [] machine = refl
run_wire (step ∷ steps) machine = wire_on (all_told_by machine step.0) (told_of all_told_by (after machine step.0) steps) ∙ ap₂ (λ (xs ys : List Rec). xs ++ ys) (act_wire machine step.0) (run_wire steps (after machine step.0))

-- where two lists go on behind the same item, as many such items stand before it
pub head_is : {X : Type 0} (x y : X) (xs ys : List X) → x ∷ xs ≡ y ∷ ys → x ≡ y
head_is x y xs ys is = cc

pub tail_is : {X : Type 0} (x y : X) (xs ys : List X) → x ∷ xs ≡ y ∷ ys → xs ≡ ys
tail_is x y xs ys is = cc

none_kept : {X : Type 0} (x : X) (xs : List X) (kept : Bool) → kept ≡ true → [] ≡ cond {A = List X} kept (x ∷ xs) xs → ⊥
none_kept x xs true is same = absurd (cc)
none_kept x xs false is same = absurd (cc)

rest_kept : {X : Type 0} (x : X) (xs ys : List X) (kept : Bool) → cond {A = List X} kept (x ∷ xs) xs ≡ cond {A = List X} kept (x ∷ ys) ys → xs ≡ ys
rest_kept x xs ys true same = tail_is x x xs ys same
rest_kept x xs ys false same = same

pub same_front : {X : Type 0} (p : X → Bool) (xs ys : List X) (x y : X) (behind after : List X) → p x ≡ true → p y ≡ true → xs ++ x ∷ behind ≡ ys ++ y ∷ after → filter p xs ≡ filter p ys → xs ≡ ys
same_front p [] [] x y behind after one other same kept = refl
same_front p [] (b ∷ ys) x y behind after one other same kept = absurd (none_kept b (filter p ys) (p b) (sym (ap p (head_is x b behind (ys ++ y ∷ after) same)) ∙ one) kept)
same_front p (a ∷ xs) [] x y behind after one other same kept = absurd (none_kept a (filter p xs) (p a) (ap p (head_is a y (xs ++ x ∷ behind) after same) ∙ other) (sym kept))
same_front {X} p (a ∷ xs) (b ∷ ys) x y behind after one other same kept =
    (let heads = head_is a b (xs ++ x ∷ behind) (ys ++ y ∷ after) same in
    let kept_so : cond {A = List X} (p a) (a ∷ filter p xs) (filter p xs) ≡ cond {A = List X} (p a) (a ∷ filter p ys) (filter p ys) = kept ∙ ap (λ (c : X). cond {A = List X} (p c) (c ∷ filter p ys) (filter p ys)) (sym heads) in
    ap₂ (λ (c : X) (zs : List X). c ∷ zs) heads (same_front p xs ys x y behind after one other (tail_is a b (xs ++ x ∷ behind) (ys ++ y ∷ after) same) (rest_kept a (filter p xs) (filter p ys) (p a) kept_so)))
