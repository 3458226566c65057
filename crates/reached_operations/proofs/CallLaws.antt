-- What remote calls ask that begin, and that this stays so while they aren't finished.
use Rattle.std.proofs.Common.{arith, ◌≡◌, ℕ, zero, suc, ◌+◌, ◌≤◌, ◌==◌, Bool, true, false, cond, List, [], ◌∷◌, ◌++◌, length, slice_get, Option, Some, None, is_some, refl, sym, ap, subst, ◌∙◌}
use Rattle.std.specs.List.{AllByRecursion, find}
use Rattle.std.proofs.lemmas.Bool.{eq-eqb, eqb-true}
use Rattle.sprite_ids.specs.declared.Tries.TheVariants.{Eight}
use Rattle.sprite_ids.specs.declared.TxNo.{TxNo}
use Rattle.sprite_ids.specs.Lists.{changed}
use Rattle.sprite_ids.proofs.ListLaws.{each_push, each_weaken, some_is}
use Rattle.link_plan.specs.declared.Fate.{Fate}
use Rattle.kernel_rpc.specs.declared.call.Arrival.{Arrival}
use Rattle.kernel_rpc.specs.declared.call.Arrival.TheVariants.{FirstRequest, FirstReply, AskedAgain, Past}
use Rattle.kernel_rpc.specs.declared.call.Call.{Call}
use Rattle.kernel_rpc.specs.declared.call.PacketCopy.{PacketCopy}
use Rattle.kernel_rpc.specs.declared.call.Part.TheVariants.{Holding, Silent}
use Rattle.kernel_rpc.specs.Histories.{reached}
use Rattle.kernel_rpc.specs.Machine.{Machine, answered, arrival, call_of, copy_of, delivered_as, further, gave_up, is_call, is_last, landed, new_call, replied, resent, tried}
use Rattle.kernel_rpc.specs.Runs.{Act, Begin, Deliver, Answer, Silence, Expire, Counts, after, delivered_by, expired_by}
use Rattle.kernel_rpc.proofs.CopyLaws.{each_without}
use Rattle.kernel_rpc.proofs.RunLaws.{Ordered, unfinished_replied}
use Rattle.kernel_rpc.proofs.SoundLaws.{each_within, found_is, found_sound}
use Rattle.kernel_rpc.proofs.TryLaws.{each_kept}
use Rattle.kernel_steps.specs.declared.Sending.{Sending}
use Rattle.packet_bodies.specs.About.{about_of}
use Rattle.packet_bodies.specs.declared.ReplyBody.{ReplyBody}
use Rattle.packet_bodies.specs.declared.Request.{Request}
use Rattle.packet_bodies.specs.declared.Request.TheVariants as requests
use Rattle.unix_calls.specs.declared.Description.{Description}
use Rattle.wire_format.specs.declared.Packet.{Packet}
use Rattle.wire_format.specs.Packets.{spelling}
use Rattle.wire_format.specs.PacketLaws.{spelled_is_read}
use Rattle.cluster_wire.specs.Calling.{IsBegin}
use Rattle.cluster_wire.specs.Goings.{Going, broadcast_to, call_to, goes, goes_by, least_of, may_go_to, next_of, other_than, owner_of, packet_to}
use Rattle.cluster_wire.specs.Ran.{EachDone}
use Rattle.cluster_wire.specs.Replying.{IsAnswer, goes_back}
use Rattle.wire_bodies.proofs.BodyLaws.{after_stays}
use Rattle.operation_calls.specs.Requests.{GoesTo, Wanted}
use Rattle.reached_domains.specs.Domains.{request_read}
use Rattle.reached_operations.specs.Operations.{IsFor, IsSuch}
use Rattle.reached_operations.proofs.WireLaws.{Good, IsUnfinished, Stays, good_after, stays_answer, stays_begin}

-- each call of that number is such
abbrev pub IsWhere : ℕ → Wanted → TxNo → Call → Type 0
IsWhere kernel wanted tx call = call.tx.0 ≡ tx.0 → IsSuch kernel wanted call.from call.owner call.body call.tries

-- the call of that number was begun, and is such where it isn't finished
abbrev pub AsksAt : ℕ → Wanted → Machine → TxNo → Type 0
AsksAt kernel wanted machine tx = (tx.0 ≤ machine.begun) × AllByRecursion (IsWhere kernel wanted tx) machine.unfinished

pub asks_found : (kernel : ℕ) (wanted : Wanted) (machine : Machine) (tx : TxNo) (call : Call) → AsksAt kernel wanted machine tx → call_of machine tx ≡ Some call → IsSuch kernel wanted call.from call.owner call.body call.tries
asks_found kernel wanted machine tx call asks e = found_sound (IsWhere kernel wanted tx) (is_call tx) call machine.unfinished e asks.1 (eqb-true call.tx.0 tx.0 (found_is tx call machine.unfinished e))

-- ---- on the way of the wire

module _ (kernel : ℕ) (wanted : Wanted) (tx : TxNo) where
  abbrev Where : Call → Type 0
  Where call = IsWhere kernel wanted tx call

  abbrev All : Machine → Type 0
  All machine = AllByRecursion Where machine.unfinished

  arrived : (a : Arrival) (copy : PacketCopy) (given : Fate) (machine : Machine) → All machine → All (delivered_as a copy given (landed copy machine))
  arrived FirstRequest copy given machine h = each_kept Where (is_call copy.tx) (further copy.to Holding) (λ call k. k) machine.unfinished h
  arrived FirstReply copy given machine h = each_without Where (is_call copy.tx) machine.unfinished h
  arrived AskedAgain copy given machine h = subst (AllByRecursion Where) (sym (unfinished_replied (call_of (landed copy machine) copy.tx) given (landed copy machine)).0) h
  arrived Past copy given machine h = h

  delivered : (o : Option PacketCopy) (given : Fate) (machine : Machine) → All machine → All (delivered_by o given machine)
  delivered None given machine h = h
  delivered (Some copy) given machine h = arrived (arrival machine copy) copy given machine h

  expired : (o : Option Call) (key : TxNo) (sent : List (ℕ × Fate)) (machine : Machine) → All machine → All (expired_by key o sent machine)
  expired None key sent machine h = h
  expired (Some call) key sent machine h = elim (is_last call) as (λ b. All (cond b (gave_up key machine) (resent key (Some call) sent machine))) [ true ↦ each_without Where (is_call key) machine.unfinished h | false ↦ each_kept Where (is_call key) tried (λ call k. k) machine.unfinished h ]

  replied_to : (o : Option Call) (key : TxNo) (reply : List ℕ) (given : Fate) (machine : Machine) → All machine → AllByRecursion Where (changed (is_call key) (answered reply) (replied o given machine).unfinished)
  replied_to o key reply given machine h = each_kept Where (is_call key) (answered reply) (λ call k. k) (replied o given machine).unfinished (subst (AllByRecursion Where) (sym (unfinished_replied o given machine).0) h)

  -- a call that begins has another number
  all_after : (act : Act) (machine : Machine) → tx.0 ≤ machine.begun → All machine → All (after machine act)
  all_after (Begin from port servers owner body tries about before sent) machine low h =
      each_push Where machine.unfinished (new_call machine from port servers owner body tries about before) h (λ same. absurd (omega (arith, low, same)))
  all_after (Deliver number given) machine low h = delivered (copy_of machine number) given machine h
  all_after (Answer key reply given) machine low h = replied_to (call_of machine key) key reply given machine h
  all_after (Silence key at) machine low h = each_kept Where (is_call key) (further at Silent) (λ call k. k) machine.unfinished h
  all_after (Expire key sent) machine low h = expired (call_of machine key) key sent machine h

within : (a b c : ℕ) → a ≤ b → b ≤ c → a ≤ c
within a b c low more = omega (arith, low, more)

-- from one machine to another: no fewer calls were begun, and what asks so still does
pub record Went (old new : Machine) : Type 0 where
  pub good : Good new
  pub more : old.begun ≤ new.begun
  pub grows : (kernel : ℕ) (wanted : Wanted) (tx : TxNo) → AsksAt kernel wanted old tx → AsksAt kernel wanted new tx

pub went_after : (machine : Machine) (act : Act) → Good machine → Went machine (after machine act)
went_after machine act good =
    let more : machine.begun ≤ (after machine act).begun = (after_stays machine act good.ordered).more in
    record {
      good = good_after machine act good;
      more = more;
      grows = λ kernel wanted tx asks. (within tx.0 machine.begun (after machine act).begun asks.0 more, all_after kernel wanted tx act machine asks.0 asks.1);
    }

-- and no call ended
pub record WentOn (old new : Machine) : Type 0 where
  pub went : Went old new
  pub stays : Stays old new

on_nowhere : (machine : Machine) → Good machine → WentOn machine machine
on_nowhere machine good = record { went = record { good = good; more = omega arith; grows = λ kernel wanted tx asks. asks }; stays = λ tx h. h }

pub on_through : (one two three : Machine) → WentOn one two → WentOn two three → WentOn one three
on_through one two three a b = record {
  went = record { good = b.went.good; more = within one.begun two.begun three.begun a.went.more b.went.more; grows = λ kernel wanted tx asks. b.went.grows kernel wanted tx (a.went.grows kernel wanted tx asks) };
  stays = λ tx h. b.stays tx (a.stays tx h);
}

begin_on : (kernel : ℕ) (going : Going) (machine : Machine) (act : Act) → IsBegin kernel machine going act → Good machine → WentOn machine (after machine act)
begin_on kernel going machine act is good = record {
  went = went_after machine act good;
  stays = subst (λ (a : Act). Stays machine (after machine a)) (sym is.is) (stays_begin machine kernel is.port going.servers going.owner (spelling (packet_to kernel (next_of machine) going)) going.tries (about_of going.body) is.before is.fates);
}

pub begins_on : (c : Description) (kernel : ℕ) (sendings : List Sending) (machine : Machine) (steps : List (Act × Counts)) → EachDone (λ (machine : Machine) (sending : Sending). goes c kernel sending) (IsBegin kernel) sendings machine steps → Good machine → WentOn machine (reached machine steps)
begins_on c kernel [] machine steps e good = subst (λ (all : List (Act × Counts)). WentOn machine (reached machine all)) (sym e) (on_nowhere machine good)
begins_on c kernel (sending ∷ sendings) machine [] e good = absurd e
begins_on c kernel (sending ∷ sendings) machine (step ∷ steps) e good =
    let one : WentOn machine (after machine step.0) = begin_on kernel e.0.way machine step.0 e.0.done good in
    on_through machine (after machine step.0) (reached (after machine step.0) steps) one (begins_on c kernel sendings (after machine step.0) steps e.1 one.went.good)

answer_on : (machine : Machine) (packet : Packet) (act : Act) → IsAnswer machine packet act → Good machine → WentOn machine (after machine act)
answer_on machine packet act is good = record {
  went = went_after machine act good;
  stays = subst (λ (a : Act). Stays machine (after machine a)) (sym is.is) (stays_answer machine packet.tx (spelling packet) is.given);
}

pub answers_on : (kernel : ℕ) (answers : List (TxNo × ReplyBody)) (machine : Machine) (steps : List (Act × Counts)) → EachDone (goes_back kernel) IsAnswer answers machine steps → Good machine → WentOn machine (reached machine steps)
answers_on kernel [] machine steps e good = subst (λ (all : List (Act × Counts)). WentOn machine (reached machine all)) (sym e) (on_nowhere machine good)
answers_on kernel (answer ∷ answers) machine [] e good = absurd e
answers_on kernel (answer ∷ answers) machine (step ∷ steps) e good =
    let one : WentOn machine (after machine step.0) = answer_on machine e.0.way step.0 e.0.done good in
    on_through machine (after machine step.0) (reached (after machine step.0) steps) one (answers_on kernel answers (after machine step.0) steps e.1 one.went.good)

-- ---- calls that begin

-- a kind of calls under which a broadcast is one that is tried eight times, and goes to no one kernel
abbrev pub IsFair : Wanted → Type 0
IsFair wanted = (path : List (List ℕ)) → wanted.such (requests.Prefix path) ≡ true → (wanted.tries ≡ Eight) × (wanted.to ≡ None)

called_so : (o : Option ℕ) (sending : Sending) (going : Going) → call_to o sending ≡ Some going → (going.body ≡ sending.body) × (going.tries ≡ sending.tries)
called_so None sending going e = absurd (cc)
called_so (Some to) sending going e =
    let made : Going = record { servers = to ∷ []; to = to; owner = to; tries = sending.tries; body = sending.body } in
    (ap (λ (g : Going). g.body) (sym (some_is made going e)), ap (λ (g : Going). g.tries) (sym (some_is made going e)))

broadcast_so : (b : Bool) (owner : ℕ) (sending : Sending) (going : Going) → broadcast_to b owner sending ≡ Some going → (going.body ≡ sending.body) × (going.tries ≡ Eight)
broadcast_so false owner sending going e = absurd (cc)
broadcast_so true owner sending going e =
    let made : Going = record { servers = sending.to; to = least_of sending.to owner; owner = owner; tries = Eight; body = sending.body } in
    (ap (λ (g : Going). g.body) (sym (some_is made going e)), ap (λ (g : Going). g.tries) (sym (some_is made going e)))

-- a call to one kernel is to be answered by that one
owner_for : (to : Option ℕ) (kernel : ℕ) (sending : Sending) (going : Going) → GoesTo to sending.to → call_to (other_than kernel sending.to) sending ≡ Some going → IsFor to going.owner
owner_for None kernel sending going goes e = tt
owner_for (Some one) kernel sending going goes e = by (one == kernel) (subst (λ (list : List ℕ). call_to (other_than kernel list) sending ≡ Some going) goes e)
  where
    by : (b : Bool) → call_to (cond {A = Option ℕ} b None (Some one)) sending ≡ Some going → going.owner ≡ one
    by true e = absurd (cc)
    by false e =
        let made : Going = record { servers = one ∷ []; to = one; owner = one; tries = sending.tries; body = sending.body } in
        ap (λ (g : Going). g.owner) (sym (some_is made going e))

module _ (c : Description) (kernel : ℕ) (wanted : Wanted) (fair : IsFair wanted) where
  owned_eight : (body : Request) (server : ℕ) → owner_of c body ≡ Some server → wanted.such body ≡ true → (wanted.tries ≡ Eight) × (wanted.to ≡ None)
  owned_eight (requests.Prefix path) server e asks = fair path asks
  owned_eight body server e asks = absurd (cc)

  -- how it goes out
  record GoesOut (sending : Sending) (going : Going) : Type 0 where
    body : going.body ≡ sending.body
    tries : going.tries ≡ wanted.tries
    to : IsFor wanted.to going.owner

  going_by : (o : Option ℕ) (sending : Sending) (going : Going) → owner_of c sending.body ≡ o → goes_by o kernel sending ≡ Some going → wanted.such sending.body ≡ true → sending.tries ≡ wanted.tries → GoesTo wanted.to sending.to → GoesOut sending going
  going_by None sending going e planned asks tries to =
      let so = called_so (other_than kernel sending.to) sending going planned in
      record { body = so.0; tries = so.1 ∙ tries; to = owner_for wanted.to kernel sending going to planned }
  going_by (Some server) sending going e planned asks tries to =
      let so = broadcast_so (may_go_to sending.to kernel server) server sending going planned in
      let eight = owned_eight sending.body server e asks in
      record { body = so.0; tries = so.1 ∙ sym eight.0; to = subst (λ (o : Option ℕ). IsFor o going.owner) (sym eight.1) tt }

  -- the call that begins
  abbrev begun_call : (machine : Machine) (going : Going) (act : Act) → IsBegin kernel machine going act → Call
  begun_call machine going act is = new_call machine kernel is.port going.servers going.owner (spelling (packet_to kernel (next_of machine) going)) going.tries (about_of going.body) is.before

  begun_such : (sending : Sending) (going : Going) (machine : Machine) (act : Act) (is : IsBegin kernel machine going act) → goes c kernel sending ≡ Some going → wanted.such sending.body ≡ true → sending.tries ≡ wanted.tries → GoesTo wanted.to sending.to
      → IsSuch kernel wanted (begun_call machine going act is).from (begun_call machine going act is).owner (begun_call machine going act is).body (begun_call machine going act is).tries
  begun_such sending going machine act is planned asks tries to =
      let so : GoesOut sending going = going_by (owner_of c sending.body) sending going refl planned asks tries to in
      let packet : Packet = packet_to kernel (next_of machine) going in
      record {
        own = refl;
        request = going.body;
        reads = ap request_read (spelled_is_read packet is.is_packet);
        asks = ap wanted.such so.body ∙ asks;
        lasts = so.tries;
        to = so.to;
      }

  begun_asks : (sending : Sending) (going : Going) (machine : Machine) (act : Act) (tx : TxNo) → Ordered machine → IsBegin kernel machine going act → goes c kernel sending ≡ Some going → wanted.such sending.body ≡ true → sending.tries ≡ wanted.tries → GoesTo wanted.to sending.to → tx.0 ≡ machine.begun + 1 → AsksAt kernel wanted (after machine act) tx
  begun_asks sending going machine act tx ordered is planned asks tries to number =
      subst (λ (a : Act). AsksAt kernel wanted (after machine a) tx) (sym is.is) (omega (arith, number), each_push (IsWhere kernel wanted tx) machine.unfinished (begun_call machine going act is) before (λ same. begun_such sending going machine act is planned asks tries to))
    where
      past_none : (call : Call) → call.tx.0 ≤ machine.begun → IsWhere kernel wanted tx call
      past_none call low same = absurd (omega (arith, number, low, same))

      before : AllByRecursion (IsWhere kernel wanted tx) machine.unfinished
      before = each_weaken (λ (call : Call). call.tx.0 ≤ machine.begun) (IsWhere kernel wanted tx) machine.unfinished past_none (each_within 0 machine.begun machine.unfinished ordered)

pub begun_next : (kernel : ℕ) (going : Going) (machine : Machine) (act : Act) → IsBegin kernel machine going act → (after machine act).begun ≡ machine.begun + 1
begun_next kernel going machine act is = ap (λ (a : Act). (after machine a).begun) is.is

found_last : {X : Type 0} (p : X → Bool) (xs : List X) (x : X) → p x ≡ true → is_some (find p (xs ++ x ∷ [])) ≡ true
found_last {X} p [] x is = ap (λ b. is_some (cond {A = Option X} b (Some x) None)) is
found_last {X} p (y ∷ ys) x is = by (p y) (found_last p ys x is)
  where
    by : (b : Bool) → is_some (find p (ys ++ x ∷ [])) ≡ true → is_some (cond {A = Option X} b (Some y) (find p (ys ++ x ∷ []))) ≡ true
    by true later = refl
    by false later = later

begun_out : (kernel : ℕ) (going : Going) (machine : Machine) (act : Act) (tx : TxNo) → IsBegin kernel machine going act → tx.0 ≡ machine.begun + 1 → IsUnfinished (after machine act) tx
begun_out kernel going machine act tx is number =
    let new : Call = new_call machine kernel is.port going.servers going.owner (spelling (packet_to kernel (next_of machine) going)) going.tries (about_of going.body) is.before in
    subst (λ (a : Act). IsUnfinished (after machine a) tx) (sym is.is) (found_last (is_call tx) machine.unfinished new (eq-eqb (machine.begun + 1) tx.0 (sym number)))

-- of calls that begin one after the other, each is unfinished and asks what was sent
pub record IsAsked (kernel : ℕ) (wanted : Wanted) (machine : Machine) (tx : TxNo) : Type 0 where
  pub asks : AsksAt kernel wanted machine tx
  pub out : IsUnfinished machine tx

pub asked_on : (kernel : ℕ) (wanted : Wanted) (old new : Machine) (tx : TxNo) → WentOn old new → IsAsked kernel wanted old tx → IsAsked kernel wanted new tx
asked_on kernel wanted old new tx w h = record { asks = w.went.grows kernel wanted tx h.asks; out = w.stays tx h.out }

pub sends_ask : (c : Description) (kernel : ℕ) (wanted : Wanted) → IsFair wanted → (first at : ℕ) (sendings : List Sending) (machine : Machine) (steps : List (Act × Counts)) (sending : Sending) (tx : TxNo)
    → EachDone (λ (machine : Machine) (sending : Sending). goes c kernel sending) (IsBegin kernel) sendings machine steps → Good machine → first ≡ machine.begun + 1 → slice_get sendings at ≡ Some sending → tx.0 ≡ first + at → wanted.such sending.body ≡ true → sending.tries ≡ wanted.tries → GoesTo wanted.to sending.to
    → IsAsked kernel wanted (reached machine steps) tx
sends_ask c kernel wanted fair first at [] machine steps sending tx e good begins there number asks tries to = absurd (cc)
sends_ask c kernel wanted fair first at (one ∷ sendings) machine [] sending tx e good begins there number asks tries to = absurd e
sends_ask c kernel wanted fair first zero (one ∷ sendings) machine (step ∷ steps) sending tx e good begins there number asks tries to =
    let same : one ≡ sending = some_is one sending there in
    let is : tx.0 ≡ machine.begun + 1 = omega (arith, number, begins) in
    asked_on kernel wanted (after machine step.0) (reached (after machine step.0) steps) tx (begins_on c kernel sendings (after machine step.0) steps e.1 (good_after machine step.0 good)) (record {
      asks = begun_asks c kernel wanted fair one e.0.way machine step.0 tx good.ordered e.0.done e.0.planned (ap (λ (s : Sending). wanted.such s.body) same ∙ asks) (ap (λ (s : Sending). s.tries) same ∙ tries) (subst (λ (s : Sending). GoesTo wanted.to s.to) (sym same) to) is;
      out = begun_out kernel e.0.way machine step.0 tx e.0.done is;
    })
sends_ask c kernel wanted fair first (suc at) (one ∷ sendings) machine (step ∷ steps) sending tx e good begins there number asks tries to =
    let next : (after machine step.0).begun ≡ machine.begun + 1 = begun_next kernel e.0.way machine step.0 e.0.done in
    sends_ask c kernel wanted fair (first + 1) at sendings (after machine step.0) steps sending tx e.1 (good_after machine step.0 good) (omega (arith, next, begins)) there (omega (arith, number)) asks tries to

-- ---- how many begin

pub begins_many : (c : Description) (kernel : ℕ) (sendings : List Sending) (machine : Machine) (steps : List (Act × Counts)) → EachDone (λ (machine : Machine) (sending : Sending). goes c kernel sending) (IsBegin kernel) sendings machine steps → (reached machine steps).begun ≡ machine.begun + length sendings
begins_many c kernel [] machine steps e = subst (λ (all : List (Act × Counts)). (reached machine all).begun ≡ machine.begun + 0) (sym e) (omega arith)
begins_many c kernel (sending ∷ sendings) machine [] e = absurd e
begins_many c kernel (sending ∷ sendings) machine (step ∷ steps) e =
    (let next : (after machine step.0).begun ≡ machine.begun + 1 = begun_next kernel e.0.way machine step.0 e.0.done in
    let rest : (reached (after machine step.0) steps).begun ≡ (after machine step.0).begun + length sendings = begins_many c kernel sendings (after machine step.0) steps e.1 in
    omega (arith, next, rest))

answer_begun : (machine : Machine) (packet : Packet) (act : Act) → IsAnswer machine packet act → (after machine act).begun ≡ machine.begun
answer_begun machine packet act is = ap (λ (a : Act). (after machine a).begun) is.is ∙ (unfinished_replied (call_of machine packet.tx) is.given machine).1

pub answers_begun : (kernel : ℕ) (answers : List (TxNo × ReplyBody)) (machine : Machine) (steps : List (Act × Counts)) → EachDone (goes_back kernel) IsAnswer answers machine steps → (reached machine steps).begun ≡ machine.begun
answers_begun kernel [] machine steps e = ap (λ (all : List (Act × Counts)). (reached machine all).begun) e
answers_begun kernel (answer ∷ answers) machine [] e = absurd e
answers_begun kernel (answer ∷ answers) machine (step ∷ steps) e = answers_begun kernel answers (after machine step.0) steps e.1 ∙ answer_begun machine e.0.way step.0 e.0.done
