-- What requests for the server of a prefix are, and their answers, as remote calls begin and are answered.
use Rattle.std.proofs.Common.{arith, ◌≡◌, ℕ, zero, suc, ◌+◌, ◌≤◌, ◌==◌, Bool, true, false, cond, List, [], ◌∷◌, ◌++◌, slice_get, Option, Some, None, option_map, refl, sym, ap, subst, ◌∙◌}
use Rattle.std.proofs.lemmas.Bool.{eqb-true}
use Rattle.std.specs.List.{AllByRecursion, find}
use Rattle.sprite_ids.specs.declared.TxNo.{TxNo}
use Rattle.sprite_ids.specs.declared.Tries.TheVariants.{Eight}
use Rattle.sprite_ids.specs.Lists.{changed}
use Rattle.sprite_ids.proofs.ListLaws.{each_push, each_weaken, some_is}
use Rattle.link_plan.specs.declared.Fate.{Fate}
use Rattle.kernel_rpc.specs.declared.call.Arrival.{Arrival}
use Rattle.kernel_rpc.specs.declared.call.Arrival.TheVariants.{FirstRequest, FirstReply, AskedAgain, Past}
use Rattle.kernel_rpc.specs.declared.call.Call.{Call}
use Rattle.kernel_rpc.specs.declared.call.PacketCopy.{PacketCopy}
use Rattle.kernel_rpc.specs.declared.call.Part.TheVariants.{Holding, Silent}
use Rattle.kernel_rpc.specs.Bodies.{body_of}
use Rattle.kernel_rpc.specs.Histories.{reached}
use Rattle.kernel_rpc.specs.Machine.{Machine, answered, arrival, call_of, copy_of, delivered_as, further, gave_up, is_call, is_last, landed, may_answer, new_call, replied, resent, tried}
use Rattle.kernel_rpc.specs.Runs.{Act, Begin, Deliver, Answer, Silence, Expire, Counts, after, delivered_by, expired_by}
use Rattle.kernel_rpc.proofs.CopyLaws.{each_without}
use Rattle.kernel_rpc.proofs.NumberLaws.{each_changed}
use Rattle.kernel_rpc.proofs.RunLaws.{Ordered, ordered_after, unfinished_replied}
use Rattle.kernel_rpc.proofs.SoundLaws.{each_within, found_is, found_sound}
use Rattle.kernel_rpc.proofs.TryLaws.{each_kept}
use Rattle.kernel_steps.specs.declared.Sending.{Sending}
use Rattle.packet_bodies.specs.About.{about_of}
use Rattle.packet_bodies.specs.declared.Body.TheVariants as bodies
use Rattle.packet_bodies.specs.declared.ReplyBody.{ReplyBody}
use Rattle.packet_bodies.specs.declared.ReplyBody.TheVariants.{Here}
use Rattle.packet_bodies.specs.declared.Request.{Request}
use Rattle.packet_bodies.specs.declared.Request.TheVariants as requests
use Rattle.unix_calls.specs.declared.Description.{Description}
use Rattle.unix_calls.specs.Domains.{begins_domain, roots_of}
use Rattle.wire_format.specs.declared.Packet.{Packet}
use Rattle.wire_format.specs.Packets.{IsPacket, reading, spelling}
use Rattle.wire_format.specs.PacketLaws.{spelled_is_read}
use Rattle.cluster_wire.specs.Calling.{IsBegin}
use Rattle.cluster_wire.specs.Goings.{Going, broadcast_to, call_to, goes, goes_by, least_of, may_go_to, next_of, other_than, owner_of, packet_to, server_in}
use Rattle.cluster_wire.specs.Ran.{EachDone}
use Rattle.cluster_wire.specs.Replying.{IsAnswer, asker, asker_by, goes_back, reply_packet}
use Rattle.server_walks.specs.Sorts.{fits}
use Rattle.redirect_laws.specs.Links.{AnswerLeads}
use Rattle.broadcast_laws.specs.Broadcasts.{Parts}
use Rattle.wire_bodies.specs.Bodies.{KeepsBodies, body_at}
use Rattle.wire_bodies.proofs.BodyLaws.{after_stays, run_stays, stays_through}
use Rattle.reached_domains.specs.Domains.{asked_prefix, asked_request, prefix_by, prefix_of, request_in, request_read, serves}

-- ---- what is so of an unfinished call

-- an answer of a kernel to a request: a server's is of a sort that the request may have; and one to who asks for the server of a prefix
-- tells that, where the kernel serves it
pub record IsTold (c : Description) (kernel : ℕ) (request : Request) (reply : ReplyBody) : Type 0 where
  pub fit : (path : Parts) → serves c kernel path ≡ true → fits request reply ≡ true
  pub served : (prefix : Parts) → prefix_of request ≡ Some prefix → (serves c kernel prefix ≡ true) × (reply ≡ Here prefix)

-- an answer that sends a name call on sends it to the root of a domain
abbrev pub SendsOn : Description → ReplyBody → Type 0
SendsOn c reply = AnswerLeads (begins_domain (roots_of c.kernels)) reply

-- the reply of a call, as it is spelled, is its owner's answer
pub record Told (c : Description) (owner : ℕ) (asks : List ℕ) (reply : List ℕ) : Type 0 where
  pub packet : Packet
  pub body : ReplyBody
  pub reads : reading reply ≡ Some packet
  pub source : packet.from ≡ owner
  pub is : packet.body ≡ bodies.Reply body
  pub sends_on : SendsOn c body
  pub told : (request : Request) → asked_request asks ≡ Some request → IsTold c owner request body

pub record Fine (c : Description) (call : Call) : Type 0 where
  pub owned : (prefix : Parts) → asked_prefix call.body ≡ Some prefix → call.owner ≡ server_in c prefix
  pub answer : (reply : List ℕ) → call.reply ≡ Some reply → Told c call.owner call.body reply

abbrev pub AllFine : Description → Machine → Type 0
AllFine c machine = AllByRecursion (Fine c) machine.unfinished

-- whether a call of the wire neither begins a remote call nor answers one
abbrev pub IsOther : Act → Type 0
IsOther (Begin from port servers owner body tries about before sent) = ⊥
IsOther (Deliver number given) = Unit {0}
IsOther (Answer tx body given) = ⊥
IsOther (Silence tx at) = Unit {0}
IsOther (Expire tx sent) = Unit {0}

module _ (c : Description) where
  fine_tried : (call : Call) → Fine c call → Fine c (tried call)
  fine_tried call k = record { owned = k.owned; answer = k.answer }

  fine_holding : (to : ℕ) (call : Call) → Fine c call → Fine c (further to Holding call)
  fine_holding to call k = record { owned = k.owned; answer = k.answer }

  fine_silent : (to : ℕ) (call : Call) → Fine c call → Fine c (further to Silent call)
  fine_silent to call k = record { owned = k.owned; answer = k.answer }

  -- ---- packets that come, kernels that go silent, timers that fire

  fine_arrived : (a : Arrival) (copy : PacketCopy) (given : Fate) (machine : Machine) → AllFine c machine → AllFine c (delivered_as a copy given (landed copy machine))
  fine_arrived FirstRequest copy given machine h = each_kept (Fine c) (is_call copy.tx) (further copy.to Holding) (fine_holding copy.to) machine.unfinished h
  fine_arrived FirstReply copy given machine h = each_without (Fine c) (is_call copy.tx) machine.unfinished h
  fine_arrived AskedAgain copy given machine h = subst (AllByRecursion (Fine c)) (sym (unfinished_replied (call_of (landed copy machine) copy.tx) given (landed copy machine)).0) h
  fine_arrived Past copy given machine h = h

  fine_delivered : (o : Option PacketCopy) (given : Fate) (machine : Machine) → AllFine c machine → AllFine c (delivered_by o given machine)
  fine_delivered None given machine h = h
  fine_delivered (Some copy) given machine h = fine_arrived (arrival machine copy) copy given machine h

  fine_expired : (o : Option Call) (tx : TxNo) (sent : List (ℕ × Fate)) (machine : Machine) → AllFine c machine → AllFine c (expired_by tx o sent machine)
  fine_expired None tx sent machine h = h
  fine_expired (Some call) tx sent machine h = elim (is_last call) as (λ b. AllFine c (cond b (gave_up tx machine) (resent tx (Some call) sent machine))) [ true ↦ each_without (Fine c) (is_call tx) machine.unfinished h | false ↦ each_kept (Fine c) (is_call tx) tried fine_tried machine.unfinished h ]

  pub fine_other : (act : Act) (machine : Machine) → IsOther act → AllFine c machine → AllFine c (after machine act)
  fine_other (Begin from port servers owner body tries about before sent) machine other h = absurd other
  fine_other (Deliver number given) machine other h = fine_delivered (copy_of machine number) given machine h
  fine_other (Answer tx body given) machine other h = absurd other
  fine_other (Silence tx at) machine other h = each_kept (Fine c) (is_call tx) (further at Silent) (fine_silent at) machine.unfinished h
  fine_other (Expire tx sent) machine other h = fine_expired (call_of machine tx) tx sent machine h

  -- ---- calls that begin

  -- who is to answer, where one server is
  abbrev OwnedBy : Option ℕ → ℕ → Type 0
  OwnedBy None owner = Unit {0}
  OwnedBy (Some server) owner = owner ≡ server

  called_so : (o : Option ℕ) (sending : Sending) (going : Going) → call_to o sending ≡ Some going → going.body ≡ sending.body
  called_so None sending going e = absurd (cc)
  called_so (Some to) sending going e =
      let made : Going = record { servers = to ∷ []; to = to; owner = to; tries = sending.tries; body = sending.body } in
      ap (λ (g : Going). g.body) (sym (some_is made going e))

  broadcast_so : (b : Bool) (owner : ℕ) (sending : Sending) (going : Going) → broadcast_to b owner sending ≡ Some going → (going.body ≡ sending.body) × (going.owner ≡ owner)
  broadcast_so false owner sending going e = absurd (cc)
  broadcast_so true owner sending going e =
      let made : Going = record { servers = sending.to; to = least_of sending.to owner; owner = owner; tries = Eight; body = sending.body } in
      (ap (λ (g : Going). g.body) (sym (some_is made going e)), ap (λ (g : Going). g.owner) (sym (some_is made going e)))

  going_so : (o : Option ℕ) (kernel : ℕ) (sending : Sending) (going : Going) → goes_by o kernel sending ≡ Some going → (going.body ≡ sending.body) × OwnedBy o going.owner
  going_so None kernel sending going e = (called_so (other_than kernel sending.to) sending going e, tt)
  going_so (Some server) kernel sending going e = broadcast_so (may_go_to sending.to kernel server) server sending going e

  prefix_owner : (body : Request) (prefix : Parts) → prefix_of body ≡ Some prefix → owner_of c body ≡ Some (server_in c prefix)
  prefix_owner (requests.Prefix path) prefix e = ap (λ (p : Parts). Some (server_in c p)) (some_is path prefix e)
  prefix_owner body prefix e = absurd (cc)

  owner_is : (kernel : ℕ) (sending : Sending) (going : Going) (prefix : Parts) → goes c kernel sending ≡ Some going → prefix_of going.body ≡ Some prefix → going.owner ≡ server_in c prefix
  owner_is kernel sending going prefix e f =
      let so = going_so (owner_of c sending.body) kernel sending going e in
      subst (λ (o : Option ℕ). OwnedBy o going.owner) (prefix_owner sending.body prefix (ap prefix_of (sym so.0) ∙ f)) so.1

  -- what a spelled packet asks
  asked_spelled : (packet : Packet) → IsPacket packet → asked_request (spelling packet) ≡ request_in packet.body
  asked_spelled packet is = ap request_read (spelled_is_read packet is)

  -- the call that begins
  abbrev begun_call : (kernel : ℕ) (machine : Machine) (going : Going) (act : Act) → IsBegin kernel machine going act → Call
  begun_call kernel machine going act is = new_call machine kernel is.port going.servers going.owner (spelling (packet_to kernel (next_of machine) going)) going.tries (about_of going.body) is.before

  begun_asks : (kernel : ℕ) (machine : Machine) (going : Going) (act : Act) (is : IsBegin kernel machine going act) → asked_prefix (begun_call kernel machine going act is).body ≡ prefix_of going.body
  begun_asks kernel machine going act is = ap prefix_by (asked_spelled (packet_to kernel (next_of machine) going) is.is_packet)

  begin_fine : (kernel : ℕ) (sending : Sending) (going : Going) (machine : Machine) (act : Act) → goes c kernel sending ≡ Some going → IsBegin kernel machine going act → AllFine c machine → AllFine c (after machine act)
  begin_fine kernel sending going machine act planned is h =
      subst (λ (a : Act). AllFine c (after machine a)) (sym is.is)
      (each_push (Fine c) machine.unfinished (begun_call kernel machine going act is) h (record {
        owned = λ prefix e. owner_is kernel sending going prefix planned (sym (begun_asks kernel machine going act is) ∙ e);
        answer = λ reply e. absurd (cc);
      }))

  pub begins_fine : (kernel : ℕ) (sendings : List Sending) (machine : Machine) (steps : List (Act × Counts)) → EachDone (λ (machine : Machine) (sending : Sending). goes c kernel sending) (IsBegin kernel) sendings machine steps → AllFine c machine → AllFine c (reached machine steps)
  begins_fine kernel [] machine steps e h = subst (λ (all : List (Act × Counts)). AllFine c (reached machine all)) (sym e) h
  begins_fine kernel (sending ∷ sendings) machine [] e h = absurd e
  begins_fine kernel (sending ∷ sendings) machine (step ∷ steps) e h = begins_fine kernel sendings (after machine step.0) steps e.1 (begin_fine kernel sending e.0.way machine step.0 e.0.planned e.0.done h)

  -- ---- what calls ask that begin

  -- the call of that number was begun, and asks for the server of the prefix where it isn't finished
  abbrev pub AsksAt : Machine → TxNo → Parts → Type 0
  AsksAt machine tx prefix = (tx.0 ≤ machine.begun) × ((body : List ℕ) → body_at machine tx ≡ Some body → asked_prefix body ≡ Some prefix)

  pub asks_on : (old new : Machine) (tx : TxNo) (prefix : Parts) → KeepsBodies old new → AsksAt old tx prefix → AsksAt new tx prefix
  asks_on old new tx prefix keeps asks = (within tx.0 old.begun new.begun asks.0 keeps.more, λ body e. asks.1 body (keeps.same tx body asks.0 e))
    where
      within : (a b c : ℕ) → a ≤ b → b ≤ c → a ≤ c
      within a b c low more = omega (arith, low, more)

  -- each call of that number asks for it
  abbrev AsksWhere : TxNo → Parts → Call → Type 0
  AsksWhere tx prefix call = call.tx.0 ≡ tx.0 → asked_prefix call.body ≡ Some prefix

  looked_up : (o : Option Call) (body : List ℕ) → body_of o ≡ Some body → (call : Call) × (o ≡ Some call) × (call.body ≡ body)
  looked_up (Some call) body e = (call, refl, some_is call.body body e)
  looked_up None body e = absurd (cc)

  all_ask : (tx : TxNo) (prefix : Parts) (calls : List Call) (body : List ℕ) → AllByRecursion (AsksWhere tx prefix) calls → body_of (find (is_call tx) calls) ≡ Some body → asked_prefix body ≡ Some prefix
  all_ask tx prefix calls body h e =
      let got = looked_up (find (is_call tx) calls) body e in
      let call : Call = got.0 in
      ap asked_prefix (sym got.2) ∙ found_sound (AsksWhere tx prefix) (is_call tx) call calls got.1 h (eqb-true call.tx.0 tx.0 (found_is tx call calls got.1))

  past_none : (tx : TxNo) (prefix : Parts) (begun : ℕ) (call : Call) → tx.0 ≡ begun + 1 → call.tx.0 ≤ begun → AsksWhere tx prefix call
  past_none tx prefix begun call number low same = absurd (omega (arith, number, low, same))

  -- the first of those that begin
  first_asks : (kernel : ℕ) (going : Going) (machine : Machine) (act : Act) (tx : TxNo) (prefix : Parts) → Ordered machine → IsBegin kernel machine going act → tx.0 ≡ machine.begun + 1 → prefix_of going.body ≡ Some prefix → AsksAt (after machine act) tx prefix
  first_asks kernel going machine act tx prefix ordered is number asks = subst (λ (a : Act). AsksAt (after machine a) tx prefix) (sym is.is) (omega (arith, number), λ body e. all_ask tx prefix (machine.unfinished ++ new ∷ []) body each e)
    where
      new : Call
      new = begun_call kernel machine going act is

      each : AllByRecursion (AsksWhere tx prefix) (machine.unfinished ++ new ∷ [])
      each = each_push (AsksWhere tx prefix) machine.unfinished new
          (each_weaken (λ (call : Call). call.tx.0 ≤ machine.begun) (AsksWhere tx prefix) machine.unfinished (λ call low. past_none tx prefix machine.begun call number low) (each_within 0 machine.begun machine.unfinished ordered))
          (λ same. begun_asks kernel machine going act is ∙ asks)

  begun_next : (kernel : ℕ) (going : Going) (machine : Machine) (act : Act) → IsBegin kernel machine going act → (after machine act).begun ≡ machine.begun + 1
  begun_next kernel going machine act is = ap (λ (a : Act). (after machine a).begun) is.is

  asks_body : (kernel : ℕ) (sending : Sending) (going : Going) (prefix : Parts) → goes c kernel sending ≡ Some going → sending.body ≡ requests.Prefix prefix → prefix_of going.body ≡ Some prefix
  asks_body kernel sending going prefix e f = ap prefix_of ((going_so (owner_of c sending.body) kernel sending going e).0 ∙ f)

  pub sends_ask : (kernel first at : ℕ) (sendings : List Sending) (machine : Machine) (steps : List (Act × Counts)) (sending : Sending) (tx : TxNo) (prefix : Parts) → EachDone (λ (machine : Machine) (sending : Sending). goes c kernel sending) (IsBegin kernel) sendings machine steps → Ordered machine → first ≡ machine.begun + 1 → slice_get sendings at ≡ Some sending → tx.0 ≡ first + at → sending.body ≡ requests.Prefix prefix → AsksAt (reached machine steps) tx prefix
  sends_ask kernel first at [] machine steps sending tx prefix e ordered begins there number asks = absurd (cc)
  sends_ask kernel first at (one ∷ sendings) machine [] sending tx prefix e ordered begins there number asks = absurd e
  sends_ask kernel first zero (one ∷ sendings) machine (step ∷ steps) sending tx prefix e ordered begins there number asks =
      let body : one.body ≡ requests.Prefix prefix = ap (λ (s : Sending). s.body) (some_is one sending there) ∙ asks in
      let is : tx.0 ≡ machine.begun + 1 = omega (arith, number, begins) in
      asks_on (after machine step.0) (reached (after machine step.0) steps) tx prefix (run_stays steps (after machine step.0) (ordered_after machine step.0 ordered))
      (first_asks kernel e.0.way machine step.0 tx prefix ordered e.0.done is (asks_body kernel one e.0.way prefix e.0.planned body))
  sends_ask kernel first (suc at) (one ∷ sendings) machine (step ∷ steps) sending tx prefix e ordered begins there number asks =
      let next : (after machine step.0).begun ≡ machine.begun + 1 = begun_next kernel e.0.way machine step.0 e.0.done in
      sends_ask kernel (first + 1) at sendings (after machine step.0) steps sending tx prefix e.1 (ordered_after machine step.0 ordered) (omega (arith, next, begins)) there (omega (arith, number)) asks

  -- ---- calls that are answered

  -- an answer of the kernel, to a call that stood so at first
  abbrev pub MayBeTold : ℕ → Machine → TxNo × ReplyBody → Type 0
  MayBeTold kernel first answer =
      SendsOn c answer.1
      × ((machine : Machine) (call : Call) (request : Request) → KeepsBodies first machine → call_of machine answer.0 ≡ Some call → Fine c call → call.owner ≡ kernel → asked_request call.body ≡ Some request → IsTold c kernel request answer.1)

  answered_to : (kernel : ℕ) (answer : TxNo × ReplyBody) (o : Option ℕ) (packet : Packet) → option_map (reply_packet kernel answer) o ≡ Some packet → (to : ℕ) × (o ≡ Some to) × (packet ≡ reply_packet kernel answer to)
  answered_to kernel answer (Some to) packet e = (to, refl, sym (some_is (reply_packet kernel answer to) packet e))
  answered_to kernel answer None packet e = absurd (cc)

  owner_by : (b : Bool) (kernel to : ℕ) (found : Call) → (found.owner == kernel) ≡ b → cond b (Some found.from) None ≡ Some to → found.owner ≡ kernel
  owner_by true kernel to found is e = eqb-true found.owner kernel is
  owner_by false kernel to found is e = absurd (cc)

  asker_owner : (may : Bool) (kernel to : ℕ) (found : Call) → asker_by may kernel (Some found) ≡ Some to → found.owner ≡ kernel
  asker_owner true kernel to found e = owner_by (found.owner == kernel) kernel to found refl e
  asker_owner false kernel to found e = absurd (cc)

  fine_answered : (kernel to : ℕ) (answer : TxNo × ReplyBody) (found : Call) → IsPacket (reply_packet kernel answer to) → found.owner ≡ kernel → SendsOn c answer.1 → ((request : Request) → asked_request found.body ≡ Some request → IsTold c kernel request answer.1) → Fine c found → Fine c (answered (spelling (reply_packet kernel answer to)) found)
  fine_answered kernel to answer found is owner led may k = record {
    owned = k.owned;
    answer = λ reply e. record {
      packet = reply_packet kernel answer to;
      body = answer.1;
      reads = ap reading (sym (some_is (spelling (reply_packet kernel answer to)) reply e)) ∙ spelled_is_read (reply_packet kernel answer to) is;
      source = sym owner;
      is = refl;
      sends_on = led;
      told = λ request f. subst (λ (n : ℕ). IsTold c n request answer.1) (sym owner) (may request f);
    };
  }

  answered_all : (o : Option Call) (tx : TxNo) (reply : List ℕ) (given : Fate) (machine : Machine) → Ordered machine → ((found : Call) → find (is_call tx) machine.unfinished ≡ Some found → Fine c found → Fine c (answered reply found)) → AllFine c machine → AllByRecursion (Fine c) (changed (is_call tx) (answered reply) (replied o given machine).unfinished)
  answered_all None tx reply given machine ordered may h = each_changed (Fine c) (Fine c) tx (answered reply) 0 machine.begun machine.unfinished ordered (λ call apart k. k) may h
  answered_all (Some call) tx reply given machine ordered may h = each_changed (Fine c) (Fine c) tx (answered reply) 0 machine.begun machine.unfinished ordered (λ call apart k. k) may h

  answer_fine : (kernel : ℕ) (answer : TxNo × ReplyBody) (packet : Packet) (first machine : Machine) (act : Act) → goes_back kernel machine answer ≡ Some packet → IsAnswer machine packet act → Ordered machine → KeepsBodies first machine → MayBeTold kernel first answer → AllFine c machine → AllFine c (after machine act)
  answer_fine kernel answer packet first machine act planned is ordered keeps may h =
      let got = answered_to kernel answer (asker kernel machine answer.0) packet planned in
      let to : ℕ = got.0 in
      let own : Packet = reply_packet kernel answer to in
      let act_is : act ≡ Answer answer.0 (spelling own) is.given = is.is ∙ ap (λ (p : Packet). Answer p.tx (spelling p) is.given) got.2 in
      let owner = λ (found : Call) (e : call_of machine answer.0 ≡ Some found). asker_owner (may_answer machine answer.0) kernel to found (subst (λ (o : Option Call). asker_by (may_answer machine answer.0) kernel o ≡ Some to) e got.1) in
      subst (λ (a : Act). AllFine c (after machine a)) (sym act_is)
      (answered_all (call_of machine answer.0) answer.0 (spelling own) is.given machine ordered
      (λ found e k. fine_answered kernel to answer found (subst IsPacket got.2 is.is_packet) (owner found e) may.0 (λ request f. may.1 machine found request keeps e k (owner found e) f) k) h)

  pub answers_fine : (kernel : ℕ) (first : Machine) (answers : List (TxNo × ReplyBody)) (machine : Machine) (steps : List (Act × Counts)) → EachDone (goes_back kernel) IsAnswer answers machine steps → Ordered machine → KeepsBodies first machine → AllByRecursion (MayBeTold kernel first) answers → AllFine c machine → AllFine c (reached machine steps)
  answers_fine kernel first [] machine steps e ordered keeps may h = subst (λ (all : List (Act × Counts)). AllFine c (reached machine all)) (sym e) h
  answers_fine kernel first (answer ∷ answers) machine [] e ordered keeps may h = absurd e
  answers_fine kernel first (answer ∷ answers) machine (step ∷ steps) e ordered keeps may h =
      answers_fine kernel first answers (after machine step.0) steps e.1 (ordered_after machine step.0 ordered)
      (stays_through first machine (after machine step.0) keeps (after_stays machine step.0 ordered)) may.1
      (answer_fine kernel answer e.0.way first machine step.0 e.0.planned e.0.done ordered keeps may.0 h)
