-- What happens at a choice of a kernel is told.
use Rattle.std.proofs.Common.{arith, ◌≡◌, ◌≢◌, ℕ, ◌+◌, ◌≤◌, ◌==◌, Bool, true, false, ◌&&◌, cond, List, [], ◌∷◌, ◌++◌, Option, Some, None, refl, sym, ap, ap₂, subst, ◌∙◌, append-nil, append_assoc}
use Rattle.std.proofs.lemmas.Bool.{and_parts, eqb-true}
use Rattle.sprite_ids.specs.declared.CopyNo.{CopyNo}
use Rattle.sprite_ids.specs.declared.TxNo.{TxNo}
use Rattle.sprite_ids.proofs.ListLaws.{some_is}
use Rattle.kernel_rpc.specs.declared.Arrival.{Arrival}
use Rattle.kernel_rpc.specs.declared.Arrival.TheVariants.{FirstRequest, FirstReply, AskedAgain, Past}
use Rattle.kernel_rpc.specs.declared.Call.{Call}
use Rattle.kernel_rpc.specs.declared.Expired.{Expired}
use Rattle.kernel_rpc.specs.declared.Expired.TheVariants as expired
use Rattle.kernel_rpc.specs.declared.PacketCopy.{PacketCopy}
use Rattle.kernel_rpc.specs.Machine.{Machine, arrival, arrival_of, call_of, copy_of, may_be_silent, owner_of}
use Rattle.kernel_rpc.specs.Machine as machines
use Rattle.kernel_rpc.specs.Histories.{reached}
use Rattle.kernel_rpc.specs.Runs.{Act, Counts, Deliver, Silence, Expire}
use Rattle.kernel_rpc.specs.Sound.{Wired}
use Rattle.kernel_rpc.specs.Steps.{IsStep, counts_in}
use Rattle.kernel_steps.specs.declared.Input.{Input}
use Rattle.kernel_steps.specs.declared.Input.TheVariants as inputs
use Rattle.kernel_steps.specs.declared.Sending.{Sending}
use Rattle.unix_calls.specs.declared.Description.{Description}
use Rattle.unix_calls.specs.declared.Event.{Event}
use Rattle.unix_calls.specs.declared.Event.TheVariants as events
use Rattle.unix_calls.specs.declared.Rec.{Rec}
use Rattle.wire_format.specs.declared.Packet.{Packet}
use Rattle.cluster_wire.specs.declared.Arrived.{Arrived}
use Rattle.cluster_wire.specs.declared.Arrived.TheVariants as arrived
use Rattle.cluster_wire.specs.declared.Said.{Said}
use Rattle.cluster_wire.specs.Arriving.{Arrives, Brings, SilentIf, asks_prefix, copy_to, only_to, reply_in, request_in}
use Rattle.cluster_wire.specs.Calling.{IsBegin}
use Rattle.cluster_wire.specs.Firing.{Fires, is_from, is_last_in, may_fire}
use Rattle.cluster_wire.specs.Goings.{Going, goes}
use Rattle.cluster_wire.specs.Ran.{Ran, told_of}
use Rattle.cluster_wire.specs.Replying.{IsAnswer, caller_of, goes_back}
use Rattle.cluster_wire.proofs.RanLaws.{none_ran, one_ran, ran_join}
use Rattle.cluster_kernels.specs.declared.State.{State}
use Rattle.cluster_kernels.specs.States.{noted_step, stepped}
use Rattle.cluster_steps.specs.Steps.{TakesSo}
use Rattle.cluster_choices.specs.declared.choice.Choice.TheVariants as choices
use Rattle.cluster_choices.specs.Acts.{Comes, Expires, FiredAs, Given, delivery}
use Rattle.cluster_wire_laws.specs.Links.{again_told, all_told_by, came_told, fault_told, faults_told, fired_told}
use Rattle.cluster_wire_laws.specs.Orders.{copy_told, firing_told, told_by}
use Rattle.cluster_wire_laws.specs.Turns.{HappeningIsTold, RanSo}
use Rattle.cluster_wire_laws.proofs.LinkLaws.{all_join, answers_tell, begun_tells, fault_linked, faults_linked, link_more, link_told, noted_linked, packets_told}
use Rattle.cluster_wire_laws.proofs.OrderLaws.{each_none, fault_apart, faults_apart, noted_apart, told_join, told_stays, wire_more, wire_told}
use Rattle.cluster_wire_laws.proofs.SendLaws.{all_sent_join, each_packets, fault_unsent, faults_unsent, none_told, noted_sends, sendings}
use Rattle.cluster_wire_laws.specs.Asks.{all_sent_between, packets_between}
use Rattle.cluster_wire.specs.Noted.{faulted, noted_all}
use Rattle.cluster_wire.specs.Faults.{packets}
use Rattle.cluster_wire.specs.declared.telling.Sent.{Sent}
use Rattle.link_plan.specs.declared.Fate.{Fate}
use Rattle.link_plan.specs.declared.Fate.TheVariants.{Once}
use Rattle.packet_bodies.specs.declared.Body.{Body}
use Rattle.packet_bodies.specs.declared.Body.TheVariants as bodies

-- of neither packets, timers nor sendings more is told
pub record Quiet (kernel : ℕ) (before after : List Event) : Type 0 where
  pub link : link_told kernel after ≡ link_told kernel before
  pub wire : wire_told kernel after ≡ wire_told kernel before
  pub sends : (a b : ℕ) → sendings a b kernel after ≡ sendings a b kernel before

pub quiet_same : (kernel : ℕ) (before after : List Event) → after ≡ before → Quiet kernel before after
quiet_same kernel before after is = record { link = ap (link_told kernel) is; wire = ap (wire_told kernel) is; sends = λ a b. ap (sendings a b kernel) is }

-- nothing was done, and no more is told
pub so_none : {L : Type 0} (faults asked : L → ℕ → ℕ → ℕ) (kernel : ℕ) (old new : Wired L) (before after : List Event) → new ≡ old → Quiet kernel before after → RanSo faults asked kernel old new before after
so_none faults asked kernel old new before after same quiet = record {
  steps = [];
  ran = none_ran faults asked old new same;
  linked = quiet.link ∙ sym (append-nil (link_told kernel before));
  in_order = quiet.wire ∙ sym (append-nil (wire_told kernel before));
  sends = λ a b. (let is = quiet.sends a b in omega arith);
}

-- what is told more, for an act
record OneTold (kernel : ℕ) (machine : Machine) (act : Act) (before after : List Event) : Type 0 where
  linked : link_told kernel after ≡ link_told kernel before ++ all_told_by machine act
  told : wire_told kernel after ≡ wire_told kernel before ++ told_by machine act
  unsent : (a b : ℕ) → sendings a b kernel after ≡ sendings a b kernel before

-- one act
so_one : {L : Type 0} (faults asked : L → ℕ → ℕ → ℕ) (kernel : ℕ) (act : Act) (old new : Wired L) (before after : List Event) → IsStep faults asked old act new → OneTold kernel old.machine act before after → RanSo faults asked kernel old new before after
so_one faults asked kernel act old new before after step one = record {
  steps = (act, counts_in faults asked new.link) ∷ [];
  ran = one_ran faults asked old new act step;
  linked = one.linked ∙ ap (λ (xs : List Rec). link_told kernel before ++ xs) (sym (append-nil (all_told_by old.machine act)));
  in_order = one.told ∙ ap (λ (xs : List Rec). wire_told kernel before ++ xs) (sym (append-nil (told_by old.machine act)));
  sends = λ a b. (let is = one.unsent a b in omega arith);
}

-- acts of which neither a copy nor a timer is told
so_still : {L : Type 0} (faults asked : L → ℕ → ℕ → ℕ) (kernel : ℕ) (old new : Wired L) (before after : List Event) (steps : List (Act × Counts)) → Ran faults asked old new steps → told_of told_by old.machine steps ≡ [] → link_told kernel after ≡ link_told kernel before ++ told_of all_told_by old.machine steps → wire_told kernel after ≡ wire_told kernel before → ((a b : ℕ) → sendings a b kernel after ≤ sendings a b kernel before + all_sent_between a b steps) → RanSo faults asked kernel old new before after
so_still faults asked kernel old new before after steps ran none linked apart sends = record {
  steps = steps;
  ran = ran;
  linked = linked;
  in_order = apart ∙ sym (append-nil (wire_told kernel before)) ∙ ap (λ (xs : List Rec). wire_told kernel before ++ xs) (sym none);
  sends = sends;
}

-- some acts, and then some more
pub so_join : {L : Type 0} (faults asked : L → ℕ → ℕ → ℕ) (kernel : ℕ) (old between new : Wired L) (before middle after : List Event) → RanSo faults asked kernel old between before middle → RanSo faults asked kernel between new middle after → RanSo faults asked kernel old new before after
so_join faults asked kernel old between new before middle after first next = record {
  steps = first.steps ++ next.steps;
  ran = ran_join faults asked old between new first.steps next.steps first.ran next.ran;
  linked = next.linked
      ∙ ap₂ (λ (xs ys : List Rec). xs ++ ys) first.linked (ap (λ (machine : Machine). told_of all_told_by machine next.steps) first.ran.reaches)
      ∙ append_assoc (link_told kernel before) (told_of all_told_by old.machine first.steps) (told_of all_told_by (reached old.machine first.steps) next.steps)
      ∙ ap (λ (xs : List Rec). link_told kernel before ++ xs) (sym (all_join first.steps next.steps old.machine));
  in_order = next.in_order
      ∙ ap₂ (λ (xs ys : List Rec). xs ++ ys) first.in_order (ap (λ (machine : Machine). told_of told_by machine next.steps) first.ran.reaches)
      ∙ append_assoc (wire_told kernel before) (told_of told_by old.machine first.steps) (told_of told_by (reached old.machine first.steps) next.steps)
      ∙ ap (λ (xs : List Rec). wire_told kernel before ++ xs) (sym (told_join first.steps next.steps old.machine));
  sends = λ a b. (let one = first.sends a b in let two = next.sends a b in let all = all_sent_join a b first.steps next.steps in omega arith);
}

-- what a kernel takes
begin_none : (kernel : ℕ) (machine : Machine) (going : Going) (act : Act) → IsBegin kernel machine going act → told_by machine act ≡ []
begin_none kernel machine going act is = ap (told_by machine) is.is

answer_none : (machine : Machine) (packet : Packet) (act : Act) → IsAnswer machine packet act → told_by machine act ≡ []
answer_none machine packet act is = ap (told_by machine) is.is

-- what a kernel did, with the packets that it sent, before the faults of its answers are told
abbrev did : ℕ → Input → Said → State → List Event
did kernel input said s = noted_all kernel (stepped kernel input said.next s).1.events said.sent (stepped kernel input said.next s).0.told

requests_so : {L : Type 0} (faults asked : L → ℕ → ℕ → ℕ) (c : Description) (kernel : ℕ) (input : Input) (said : Said) (old new : Wired L) (s t : State) (takes : TakesSo faults asked c kernel input said old new s t) → RanSo faults asked kernel old takes.goes_out.between s.told (did kernel input said s)
requests_so faults asked c kernel input said old new s t takes =
    let made = stepped kernel input said.next s in
    let requests = takes.goes_out.requests in
    let plan = λ (machine : Machine) (sending : Sending). goes c kernel sending in
    so_still faults asked kernel old takes.goes_out.between s.told (did kernel input said s) requests.steps requests.ran
    (each_none plan (IsBegin kernel) (begin_none kernel) made.1.sends old.machine requests.steps requests.each)
    (noted_linked kernel made.1.events said.sent made.0.told takes.whole
    ∙ ap₂ (λ (xs ys : List Rec). xs ++ ys) (ap (link_told kernel) (told_stays kernel input said.next s)) (ap (packets_told kernel) requests.told_so ∙ begun_tells kernel plan made.1.sends old.machine requests.steps requests.each))
    (noted_apart kernel made.1.events said.sent made.0.told ∙ ap (wire_told kernel) (told_stays kernel input said.next s))
    (λ a b. (let noted = noted_sends a b kernel made.1.events said.sent made.0.told in
    let same = ap (sendings a b kernel) (told_stays kernel input said.next s) in
    let sent = ap (λ (xs : List Sent). packets_between a b kernel (packets xs)) requests.told_so ∙ each_packets a b kernel plan made.1.sends old.machine requests.steps requests.each in omega arith))

answers_so : {L : Type 0} (faults asked : L → ℕ → ℕ → ℕ) (c : Description) (kernel : ℕ) (input : Input) (said : Said) (old new : Wired L) (s t : State) (takes : TakesSo faults asked c kernel input said old new s t) → RanSo faults asked kernel takes.goes_out.between new (did kernel input said s) t.told
answers_so faults asked c kernel input said old new s t takes =
    let answers = takes.goes_out.answers in
    let out = (stepped kernel input said.next s).1 in
    so_still faults asked kernel takes.goes_out.between new (did kernel input said s) t.told answers.steps answers.ran
    (each_none (goes_back kernel) IsAnswer answer_none out.answers takes.goes_out.between.machine answers.steps answers.each)
    (ap (λ (t : State). link_told kernel t.told) takes.state
    ∙ faults_linked kernel said.answered (did kernel input said s)
    ∙ ap (λ (xs : List Rec). link_told kernel (did kernel input said s) ++ xs) (ap (faults_told kernel) answers.told_so ∙ answers_tell kernel out.answers takes.goes_out.between.machine answers.steps answers.each))
    (ap (λ (t : State). wire_told kernel t.told) takes.state ∙ faults_apart kernel said.answered (did kernel input said s))
    (λ a b. (let state = ap (λ (t : State). sendings a b kernel t.told) takes.state in
    let none = faults_unsent a b kernel kernel said.answered (did kernel input said s) in omega arith))

pub so_taken : {L : Type 0} (faults asked : L → ℕ → ℕ → ℕ) (c : Description) (kernel : ℕ) (input : Input) (said : Said) (old new : Wired L) (s t : State) → TakesSo faults asked c kernel input said old new s t → RanSo faults asked kernel old new s.told t.told
so_taken faults asked c kernel input said old new s t takes =
    so_join faults asked kernel old takes.goes_out.between new s.told (did kernel input said s) t.told
    (requests_so faults asked c kernel input said old new s t takes)
    (answers_so faults asked c kernel input said old new s t takes)

-- a server goes silent, or doesn't
silent_so : {L : Type 0} (faults asked : L → ℕ → ℕ → ℕ) (b : Bool) (tx : TxNo) (kernel : ℕ) (old new : Wired L) (told : List Event) → SilentIf faults asked b tx kernel old new → RanSo faults asked kernel old new told told
silent_so faults asked true tx kernel old new told silent = so_one faults asked kernel (Silence tx kernel) old new told told silent (record { linked = sym (append-nil (link_told kernel told)); told = sym (append-nil (wire_told kernel told)); unsent = λ a b. refl })
silent_so faults asked false tx kernel old new told silent = so_none faults asked kernel old new told told silent (quiet_same kernel told told refl)

-- a copy in flight to a kernel
only_is : (kernel : ℕ) (o : Option PacketCopy) (copy : PacketCopy) → only_to kernel o ≡ Some copy → (o ≡ Some copy) × (copy.to ≡ kernel)
only_is kernel None copy is = absurd (cc)
only_is kernel (Some found) copy is = by_place (found.to == kernel) refl is
  where
    by_place : (b : Bool) → (found.to == kernel) ≡ b → cond b (Some found) None ≡ Some copy → (Some found ≡ Some copy) × (copy.to ≡ kernel)
    by_place true at is = (is, subst (λ (c : PacketCopy). c.to ≡ kernel) (some_is found copy is) (eqb-true found.to kernel at))
    by_place false at is = absurd (cc)

copy_there : (kernel : ℕ) (machine : Machine) (number : CopyNo) (copy : PacketCopy) → copy_to kernel machine number ≡ Some copy → copy_told (copy_of machine number) ≡ record { kernel = kernel; event = delivery copy } ∷ []
copy_there kernel machine number copy is =
    (let found = only_is kernel (copy_of machine number) copy is in
    ap copy_told found.0 ∙ ap (λ (k : ℕ). record { kernel = k; event = delivery copy } ∷ []) found.1)

came_there : (kernel : ℕ) (machine : Machine) (number : CopyNo) (copy : PacketCopy) (given : Fate) → copy_to kernel machine number ≡ Some copy → came_told machine given (copy_of machine number) ≡ record { kernel = kernel; event = delivery copy } ∷ again_told (arrival machine copy) kernel given (call_of machine copy.tx)
came_there kernel machine number copy given is =
    (let found = only_is kernel (copy_of machine number) copy is in
    ap (came_told machine given) found.0 ∙ ap (λ (k : ℕ). record { kernel = k; event = delivery copy } ∷ again_told (arrival machine copy) k given (call_of machine copy.tx)) found.1)

-- where nothing goes out again, nothing is told of that
again_once : (what : Arrival) (kernel : ℕ) (o : Option Call) → again_told what kernel Once o ≡ []
again_once FirstRequest kernel o = refl
again_once FirstReply kernel o = refl
again_once AskedAgain kernel None = refl
again_once AskedAgain kernel (Some call) = refl
again_once Past kernel o = refl

-- a copy that comes is told
delivered_told : (kernel : ℕ) (machine : Machine) (number : CopyNo) (copy : PacketCopy) (s : State) → copy_to kernel machine number ≡ Some copy → OneTold kernel machine (Deliver number Once) s.told (noted_step kernel (delivery copy) s).told
delivered_told kernel machine number copy s is = record {
  linked = link_more kernel s.told (delivery copy) refl
      ∙ ap (λ (xs : List Rec). link_told kernel s.told ++ xs) (ap (λ (xs : List Rec). record { kernel = kernel; event = delivery copy } ∷ xs) (sym (again_once (arrival machine copy) kernel (call_of machine copy.tx))) ∙ sym (came_there kernel machine number copy Once is));
  told = wire_more kernel s.told (delivery copy) refl ∙ ap (λ (xs : List Rec). wire_told kernel s.told ++ xs) (sym (copy_there kernel machine number copy is));
  unsent = λ a b. none_told a b kernel s.told (delivery copy) refl;
}

-- a reply that goes out again is one that its caller asked for again
record GoesAgain (what : Arrival) (o : Option Call) (from to : ℕ) (given : Fate) : Type 0 where
  call : Call
  asked : what ≡ AskedAgain
  found : o ≡ Some call
  owner : from ≡ call.owner
  caller : to ≡ call.from

request_again : (tx : TxNo) (from : ℕ) (body : Body) (a b : ℕ) (given : Fate) → arrived.Again a b given ≡ request_in tx from body → ⊥
request_again tx from (bodies.Request request) a b given is = absurd (cc)
request_again tx from (bodies.Reply reply) a b given is = absurd (cc)

reply_again : (tx : TxNo) (from : ℕ) (body : Body) (a b : ℕ) (given : Fate) → arrived.Again a b given ≡ reply_in tx from body → ⊥
reply_again tx from (bodies.Request request) a b given is = absurd (cc)
reply_again tx from (bodies.Reply reply) a b given is = absurd (cc)

again_at : (from to : ℕ) (given kept : Fate) (o : Option Call) → o ≢ None → arrived.Again from to given ≡ arrived.Again (owner_of o) (caller_of o) kept → GoesAgain AskedAgain o from to given
again_at from to given kept None some is = absurd (some refl)
again_at from to given kept (Some call) some is = record { call = call; asked = refl; found = refl; owner = cc; caller = cc }

some_call : (copy : PacketCopy) (o : Option Call) → arrival_of copy o ≡ AskedAgain → o ≢ None
some_call copy None is = absurd (cc)
some_call copy (Some call) is = λ none. absurd (cc)

again_is : (what : Arrival) (machine : Machine) (copy : PacketCopy) (from to : ℕ) (given : Fate) → arrival machine copy ≡ what → Brings what machine copy (arrived.Again from to given) → GoesAgain what (call_of machine copy.tx) from to given
again_is FirstRequest machine copy from to given at brings = absurd (request_again copy.tx brings.0.from brings.0.body from to given brings.2)
again_is FirstReply machine copy from to given at brings = absurd (reply_again copy.tx brings.0.from brings.0.body from to given brings.2)
again_is AskedAgain machine copy from to given at brings = again_at from to given brings.0 (call_of machine copy.tx) (some_call copy (call_of machine copy.tx) at) brings.1
again_is Past machine copy from to given at brings = absurd (cc)

again_tells : (what : Arrival) (kernel from to : ℕ) (given : Fate) (o : Option Call) → GoesAgain what o from to given → again_told what kernel given o ≡ fault_told kernel from to given
again_tells what kernel from to given o again =
    ap₂ (λ (what : Arrival) (o : Option Call). again_told what kernel given o) again.asked again.found
    ∙ ap₂ (λ (from to : ℕ). fault_told kernel from to given) (sym again.owner) (sym again.caller)

-- one that asks for the reply again is told with the reply's fault
asked_told : (kernel : ℕ) (machine : Machine) (number : CopyNo) (copy : PacketCopy) (from to : ℕ) (given : Fate) (s t : State) → copy_to kernel machine number ≡ Some copy → Brings (arrival machine copy) machine copy (arrived.Again from to given) → t.told ≡ faulted from to given (noted_step kernel (delivery copy) s).told → OneTold kernel machine (Deliver number given) s.told t.told
asked_told kernel machine number copy from to given s t is brings state = record {
  linked = ap (link_told kernel) state
      ∙ fault_linked kernel from to given (noted_step kernel (delivery copy) s).told
      ∙ ap (λ (xs : List Rec). xs ++ fault_told kernel from to given) (link_more kernel s.told (delivery copy) refl)
      ∙ append_assoc (link_told kernel s.told) (record { kernel = kernel; event = delivery copy } ∷ []) (fault_told kernel from to given)
      ∙ ap (λ (xs : List Rec). link_told kernel s.told ++ xs) (ap (λ (xs : List Rec). record { kernel = kernel; event = delivery copy } ∷ xs) (sym (again_tells (arrival machine copy) kernel from to given (call_of machine copy.tx) (again_is (arrival machine copy) machine copy from to given refl brings))) ∙ sym (came_there kernel machine number copy given is));
  told = ap (wire_told kernel) state
      ∙ fault_apart kernel from to given (noted_step kernel (delivery copy) s).told
      ∙ wire_more kernel s.told (delivery copy) refl
      ∙ ap (λ (xs : List Rec). wire_told kernel s.told ++ xs) (sym (copy_there kernel machine number copy is));
  unsent = λ a b. ap (sendings a b kernel) state ∙ fault_unsent a b kernel from to given (noted_step kernel (delivery copy) s).told ∙ none_told a b kernel s.told (delivery copy) refl;
}

-- what a copy brings
came_so : {L : Type 0} (faults asked : L → ℕ → ℕ → ℕ) (c : Description) (kernel : ℕ) (number : CopyNo) (copy : PacketCopy) (came : Arrived) (old between new : Wired L) (s t : State) → copy_to kernel old.machine number ≡ Some copy → Arrives faults asked number copy came old between → Given faults asked c kernel copy.tx came between new (noted_step kernel (delivery copy) s) t → RanSo faults asked kernel old new s.told t.told
came_so faults asked c kernel number copy (arrived.Message input) old between new s t is arrives given =
    so_join faults asked kernel old between new s.told (noted_step kernel (delivery copy) s).told t.told
    (so_one faults asked kernel (Deliver number Once) old between s.told (noted_step kernel (delivery copy) s).told arrives.step (delivered_told kernel old.machine number copy s is))
    (so_join faults asked kernel between given.between new (noted_step kernel (delivery copy) s).told t.told t.told
    (so_taken faults asked c kernel input given.said between given.between (noted_step kernel (delivery copy) s) t given.takes)
    (silent_so faults asked (asks_prefix input && may_be_silent given.between.machine copy.tx kernel) copy.tx kernel given.between new t.told given.silent))
came_so faults asked c kernel number copy (arrived.Again from to what) old between new s t is arrives given =
    so_join faults asked kernel old between new s.told t.told t.told
    (so_one faults asked kernel (Deliver number what) old between s.told t.told arrives.step (asked_told kernel old.machine number copy from to what s t is arrives.brings (ap (λ (t : State). t.told) given.1)))
    (so_none faults asked kernel between new t.told t.told given.0 (quiet_same kernel t.told t.told refl))
came_so faults asked c kernel number copy arrived.Old old between new s t is arrives given =
    so_join faults asked kernel old between new s.told (noted_step kernel (delivery copy) s).told t.told
    (so_one faults asked kernel (Deliver number Once) old between s.told (noted_step kernel (delivery copy) s).told arrives.step (delivered_told kernel old.machine number copy s is))
    (so_none faults asked kernel between new (noted_step kernel (delivery copy) s).told t.told given.0 (quiet_same kernel (noted_step kernel (delivery copy) s).told t.told (ap (λ (t : State). t.told) given.1)))

-- a copy comes
comes_so : {L : Type 0} (faults asked : L → ℕ → ℕ → ℕ) (c : Description) (kernel : ℕ) (number : CopyNo) (o : Option PacketCopy) (old new : Wired L) (s t : State) → copy_to kernel old.machine number ≡ o → Comes faults asked c kernel number o old new s t → RanSo faults asked kernel old new s.told t.told
comes_so faults asked c kernel number None old new s t is comes = so_none faults asked kernel old new s.told t.told comes.0 (quiet_same kernel s.told t.told (ap (λ (t : State). t.told) comes.1))
comes_so faults asked c kernel number (Some copy) old new s t is comes = came_so faults asked c kernel number copy comes.came old comes.between new s t is comes.arrives comes.given

-- a timer that may fire is the kernel's
firing_there : (kernel : ℕ) (tx : TxNo) (copies : List PacketCopy) (o : Option Call) → (is_from kernel o && machines.may_fire copies o) ≡ true → firing_told tx o ≡ record { kernel = kernel; event = events.Expire tx (is_last_in o) } ∷ []
firing_there kernel tx copies None may = absurd (cc)
firing_there kernel tx copies (Some call) may = ap (λ (k : ℕ). record { kernel = k; event = events.Expire tx (machines.is_last call) } ∷ []) (eqb-true call.from kernel (and_parts (call.from == kernel) (machines.is_due copies call) may).0)

fired_there : (kernel : ℕ) (tx : TxNo) (copies : List PacketCopy) (sent : List (ℕ × Fate)) (last : Bool) (o : Option Call) → (is_from kernel o && machines.may_fire copies o) ≡ true → last ≡ is_last_in o → fired_told tx sent o ≡ record { kernel = kernel; event = events.Expire tx last } ∷ cond {A = List Rec} last [] (faults_told kernel sent)
fired_there kernel tx copies sent last None may is = absurd (cc)
fired_there kernel tx copies sent last (Some call) may is =
    ap₂ (λ (k : ℕ) (b : Bool). record { kernel = k; event = events.Expire tx b } ∷ cond {A = List Rec} b [] (faults_told k sent)) (eqb-true call.from kernel (and_parts (call.from == kernel) (machines.is_due copies call) may).0) (sym is)

-- a timer that fires is told, with the faults of what goes out again
fired_so : {L : Type 0} (faults asked : L → ℕ → ℕ → ℕ) (c : Description) (kernel : ℕ) (tx : TxNo) (what : Expired) (old between new : Wired L) (s t : State) → may_fire kernel old.machine tx ≡ true → Fires faults asked kernel tx what old between → FiredAs faults asked c kernel tx what between new s t → RanSo faults asked kernel old new s.told t.told
fired_so faults asked c kernel tx (expired.Resent fates) old between new s t may fires fired =
    (let noted = (noted_step kernel (events.Expire tx false) s).told in
    let state = ap (λ (t : State). t.told) fired.1 in
    so_join faults asked kernel old between new s.told t.told t.told
    (so_one faults asked kernel (Expire tx fates) old between s.told t.told fires.step (record {
      linked = ap (link_told kernel) state
          ∙ faults_linked kernel fates noted
          ∙ ap (λ (xs : List Rec). xs ++ faults_told kernel fates) (link_more kernel s.told (events.Expire tx false) refl)
          ∙ append_assoc (link_told kernel s.told) (record { kernel = kernel; event = events.Expire tx false } ∷ []) (faults_told kernel fates)
          ∙ ap (λ (xs : List Rec). link_told kernel s.told ++ xs) (sym (fired_there kernel tx old.machine.copies fates false (call_of old.machine tx) may fires.last));
      told = ap (wire_told kernel) state
          ∙ faults_apart kernel fates noted
          ∙ wire_more kernel s.told (events.Expire tx false) refl
          ∙ ap (λ (b : Bool). wire_told kernel s.told ++ record { kernel = kernel; event = events.Expire tx b } ∷ []) fires.last
          ∙ ap (λ (xs : List Rec). wire_told kernel s.told ++ xs) (sym (firing_there kernel tx old.machine.copies (call_of old.machine tx) may));
      unsent = λ a b. ap (sendings a b kernel) state ∙ faults_unsent a b kernel kernel fates noted ∙ none_told a b kernel s.told (events.Expire tx false) refl;
    }))
    (so_none faults asked kernel between new t.told t.told fired.0 (quiet_same kernel t.told t.told refl)))
fired_so faults asked c kernel tx (expired.GivenUp before now) old between new s t may fires fired =
    (let noted = (noted_step kernel (events.Expire tx true) s).told in
    so_join faults asked kernel old between new s.told noted t.told
    (so_one faults asked kernel (Expire tx []) old between s.told noted fires.step (record {
      linked = link_more kernel s.told (events.Expire tx true) refl
          ∙ ap (λ (xs : List Rec). link_told kernel s.told ++ xs) (sym (fired_there kernel tx old.machine.copies [] true (call_of old.machine tx) may fires.last));
      told = wire_more kernel s.told (events.Expire tx true) refl
          ∙ ap (λ (b : Bool). wire_told kernel s.told ++ record { kernel = kernel; event = events.Expire tx b } ∷ []) fires.last
          ∙ ap (λ (xs : List Rec). wire_told kernel s.told ++ xs) (sym (firing_there kernel tx old.machine.copies (call_of old.machine tx) may));
      unsent = λ a b. none_told a b kernel s.told (events.Expire tx true) refl;
    }))
    (so_taken faults asked c kernel (inputs.GaveUp tx) fired.said between new (noted_step kernel (events.Expire tx true) s) t fired.takes))

expires_so : {L : Type 0} (faults asked : L → ℕ → ℕ → ℕ) (c : Description) (kernel : ℕ) (tx : TxNo) (may : Bool) (old new : Wired L) (s t : State) → may_fire kernel old.machine tx ≡ may → Expires faults asked c kernel tx may old new s t → RanSo faults asked kernel old new s.told t.told
expires_so faults asked c kernel tx false old new s t is expires = so_none faults asked kernel old new s.told t.told expires.0 (quiet_same kernel s.told t.told (ap (λ (t : State). t.told) expires.1))
expires_so faults asked c kernel tx true old new s t is expires = fired_so faults asked c kernel tx expires.what old expires.between new s t is expires.fires expires.then_so

-- whatever happens at a kernel
pub happening_so : {L : Type 0} (faults asked : L → ℕ → ℕ → ℕ) → HappeningIsTold faults asked
happening_so faults asked c kernel (choices.Deliver number) old new s t happens = comes_so faults asked c kernel number (copy_to kernel old.machine number) old new s t refl happens
happening_so faults asked c kernel (choices.Expire tx) old new s t happens = expires_so faults asked c kernel tx (may_fire kernel old.machine tx) old new s t refl happens
happening_so faults asked c kernel (choices.WriteBack file block) old new s t happens = so_taken faults asked c kernel (inputs.Due file block) happens.said old new s t happens.takes
