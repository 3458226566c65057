-- What calls of the wire keep: each call goes to kernels that take its request.
use Rattle.std.proofs.Common.{◌≡◌, ℕ, ◌==◌, Bool, true, false, ◌&&◌, ◌||◌, not, cond, List, [], ◌∷◌, map, Option, Some, None, refl, sym, ap, subst}
use Rattle.std.proofs.lemmas.Bool.{and_parts, eqb-true}
use Rattle.std.specs.List.{AllByRecursion, list_all, list_any}
use Rattle.sprite_ids.specs.declared.Tries.TheVariants.{Eight}
use Rattle.sprite_ids.specs.declared.TxNo.{TxNo}
use Rattle.sprite_ids.proofs.ListLaws.{each_push, some_is}
use Rattle.link_plan.specs.declared.Fate.{Fate}
use Rattle.kernel_rpc.specs.declared.call.Arrival.{Arrival}
use Rattle.kernel_rpc.specs.declared.call.Arrival.TheVariants.{FirstRequest, FirstReply, AskedAgain, Past}
use Rattle.kernel_rpc.specs.declared.call.Call.{Call}
use Rattle.kernel_rpc.specs.declared.call.PacketCopy.{PacketCopy}
use Rattle.kernel_rpc.specs.declared.call.Part.{Part}
use Rattle.kernel_rpc.specs.declared.call.Part.TheVariants.{Answered, Holding, Silent}
use Rattle.kernel_rpc.specs.declared.call.Receiver.{Receiver}
use Rattle.kernel_rpc.specs.Machine.{Machine, answered, arrival, call_of, copy_of, delivered_as, fresh, further, gave_up, is_at, is_call, is_last, landed, new_call, replied, request, resent, tried, with_part}
use Rattle.kernel_rpc.specs.Runs.{Act, Answer, Begin, Counts, Deliver, Expire, MayAct, Silence, after, delivered_by, expired_by}
use Rattle.kernel_rpc.proofs.CopyLaws.{each_without}
use Rattle.kernel_rpc.proofs.RunLaws.{unfinished_replied}
use Rattle.kernel_rpc.proofs.TryLaws.{each_kept}
use Rattle.kernel_steps.specs.declared.Sending.{Sending}
use Rattle.packet_bodies.specs.About.{about_of}
use Rattle.packet_bodies.specs.declared.Request.{Request}
use Rattle.unix_calls.specs.declared.Description.{Description}
use Rattle.wire_format.specs.declared.Packet.{Packet}
use Rattle.wire_format.specs.Packets.{spelling}
use Rattle.wire_format.specs.PacketLaws.{spelled_is_read}
use Rattle.cluster_wire.specs.Calling.{IsBegin}
use Rattle.cluster_wire.specs.Goings.{Going, are_apart, broadcast_to, call_to, goes, goes_by, least_of, may_go_to, next_of, other_than, owner_of, packet_to}
use Rattle.cluster_steps.specs.Receivers.{fits, is_for_servers, is_receiver, may_be_asked}
use Rattle.reached_domains.specs.Domains.{request_read}
use Rattle.reached_domains.proofs.CallLaws.{IsOther}
use Rattle.reached_receivers.specs.Receivers.{GoesRight, IsInside}
use Rattle.reached_receivers.proofs.WireWalk.{Bears}

-- ---- lists

list_each : {X : Type 0} (q : X → Bool) (xs : List X) → list_all q xs ≡ true → AllByRecursion (λ x. q x ≡ true) xs
list_each q [] e = tt
list_each q (x ∷ xs) e = let parts = and_parts (q x) (list_all q xs) e in (parts.0, list_each q xs parts.1)

-- what all items of a list are, so is one that stands there
is_there : (q : ℕ → Bool) (xs : List ℕ) (owner : ℕ) → AllByRecursion (λ x. q x ≡ true) xs → list_any (λ x. x == owner) xs ≡ true → q owner ≡ true
is_there q [] owner h e = absurd (cc)
is_there q (x ∷ xs) owner h e = by (is_there q xs owner h.1) (x == owner) refl e
  where
    by : (list_any (λ x. x == owner) xs ≡ true → q owner ≡ true) → (b : Bool) → (x == owner) ≡ b → (b || list_any (λ x. x == owner) xs) ≡ true → q owner ≡ true
    by rest true same any = subst (λ n. q n ≡ true) (eqb-true x owner same) h.0
    by rest false off any = rest any

-- ---- a call

module _ (c : Description) where
  abbrev Takes : Request → List Receiver → Type 0
  Takes request receivers = AllByRecursion (λ (receiver : Receiver). is_receiver c (is_for_servers request) receiver.kernel ≡ true) receivers

  parts_kept : (request : Request) (at : ℕ) (part : Part) (receivers : List Receiver) → Takes request receivers → Takes request (with_part at part receivers)
  parts_kept request at part [] h = tt
  parts_kept request at part (receiver ∷ receivers) h =
      elim (is_at at receiver) as (λ b. Takes request (cond b (record receiver { part = part } ∷ receivers) (receiver ∷ with_part at part receivers))) [ true ↦ (h.0, h.1) | false ↦ (h.0, parts_kept request at part receivers h.1) ]

  right_tried : (call : Call) → GoesRight c call → GoesRight c (tried call)
  right_tried call k = record { request = k.request; asks = k.asks; may = k.may; owner = k.owner; receivers = k.receivers; low = k.low; high = k.high }

  right_further : (at : ℕ) (part : Part) (call : Call) → GoesRight c call → GoesRight c (further at part call)
  right_further at part call k = record { request = k.request; asks = k.asks; may = k.may; owner = k.owner; receivers = parts_kept k.request at part call.receivers k.receivers; low = k.low; high = k.high }

  right_answered : (reply : List ℕ) (call : Call) → GoesRight c call → GoesRight c (answered reply call)
  right_answered reply call k = record { request = k.request; asks = k.asks; may = k.may; owner = k.owner; receivers = parts_kept k.request call.owner Answered call.receivers k.receivers; low = k.low; high = k.high }

  -- ---- the wire

  abbrev pub Right : Machine → Type 0
  Right machine = AllByRecursion (GoesRight c) machine.unfinished

  right_replied : (o : Option Call) (given : Fate) (machine : Machine) → Right machine → Right (replied o given machine)
  right_replied o given machine h = subst (AllByRecursion (GoesRight c)) (sym (unfinished_replied o given machine).0) h

  right_arrived : (a : Arrival) (copy : PacketCopy) (given : Fate) (machine : Machine) → Right machine → Right (delivered_as a copy given machine)
  right_arrived FirstRequest copy given machine h = each_kept (GoesRight c) (is_call copy.tx) (further copy.to Holding) (λ call k. right_further copy.to Holding call k) machine.unfinished h
  right_arrived FirstReply copy given machine h = each_without (GoesRight c) (is_call copy.tx) machine.unfinished h
  right_arrived AskedAgain copy given machine h = right_replied (call_of machine copy.tx) given machine h
  right_arrived Past copy given machine h = h

  right_delivered : (o : Option PacketCopy) (given : Fate) (machine : Machine) → Right machine → Right (delivered_by o given machine)
  right_delivered None given machine h = h
  right_delivered (Some copy) given machine h = right_arrived (arrival machine copy) copy given (landed copy machine) h

  right_fired : (o : Option Call) (tx : TxNo) (sent : List (ℕ × Fate)) (machine : Machine) → Right machine → Right (expired_by tx o sent machine)
  right_fired None tx sent machine h = h
  right_fired (Some call) tx sent machine h =
      elim (is_last call) as (λ b. Right (cond b (gave_up tx machine) (resent tx (Some call) sent machine))) [ true ↦ each_without (GoesRight c) (is_call tx) machine.unfinished h | false ↦ each_kept (GoesRight c) (is_call tx) tried (λ call k. right_tried call k) machine.unfinished h ]

  right_others : (act : Act) (machine : Machine) (old new : Counts) → IsOther act → MayAct machine old act new → Right machine → Right (after machine act)
  right_others (Begin from port servers owner body tries about before sent) machine old new other may h = absurd other
  right_others (Deliver number given) machine old new other may h = right_delivered (copy_of machine number) given machine h
  right_others (Answer tx body given) machine old new other may h = absurd other
  right_others (Silence tx at) machine old new other may h = each_kept (GoesRight c) (is_call tx) (further at Silent) (λ call k. right_further at Silent call k) machine.unfinished h
  right_others (Expire tx sent) machine old new other may h = right_fired (call_of machine tx) tx sent machine h

  right_answers : (tx : TxNo) (reply : List ℕ) (given : Fate) (machine : Machine) → Right machine → Right (after machine (Answer tx reply given))
  right_answers tx reply given machine h = each_kept (GoesRight c) (is_call tx) (answered reply) (λ call k. right_answered reply call k) (replied (call_of machine tx) given machine).unfinished (right_replied (call_of machine tx) given machine h)

  -- ---- a call that begins

  -- its request is one that kernels answer, and the kernels to which it goes, and its owner, take such
  record GoesTo (going : Going) : Type 0 where
    may : may_be_asked c going.body ≡ true
    servers : AllByRecursion (λ kernel. is_receiver c (is_for_servers going.body) kernel ≡ true) going.servers
    owner : is_receiver c (is_for_servers going.body) going.owner ≡ true

  first_other : (kernel to : ℕ) (body : Request) (list : List ℕ) → other_than kernel list ≡ Some to → AllByRecursion (λ kernel. is_receiver c (is_for_servers body) kernel ≡ true) list → is_receiver c (is_for_servers body) to ≡ true
  first_other kernel to body [] e h = absurd (cc)
  first_other kernel to body (first ∷ list) e h = by (first == kernel) e
    where
      by : (b : Bool) → cond b None (Some first) ≡ Some to → is_receiver c (is_for_servers body) to ≡ true
      by true none = absurd (cc)
      by false some = subst (λ n. is_receiver c (is_for_servers body) n ≡ true) (some_is first to some) h.0

  called_to : (o : Option ℕ) (kernel : ℕ) (sending : Sending) (going : Going) → may_be_asked c sending.body ≡ true → other_than kernel sending.to ≡ o → call_to o sending ≡ Some going → AllByRecursion (λ kernel. is_receiver c (is_for_servers sending.body) kernel ≡ true) sending.to → GoesTo going
  called_to None kernel sending going may is e h = absurd (cc)
  called_to (Some to) kernel sending going may is e h =
      let made : Going = record { servers = to ∷ []; to = to; owner = to; tries = sending.tries; body = sending.body } in
      let takes = first_other kernel to sending.body sending.to is h in
      subst GoesTo (some_is made going e) (record { may = may; servers = (takes, tt); owner = takes })

  broadcast_goes : (b : Bool) (kernel owner : ℕ) (sending : Sending) (going : Going) → may_be_asked c sending.body ≡ true → may_go_to sending.to kernel owner ≡ b → broadcast_to b owner sending ≡ Some going → AllByRecursion (λ kernel. is_receiver c (is_for_servers sending.body) kernel ≡ true) sending.to → GoesTo going
  broadcast_goes false kernel owner sending going may is e h = absurd (cc)
  broadcast_goes true kernel owner sending going may is e h =
      let made : Going = record { servers = sending.to; to = least_of sending.to owner; owner = owner; tries = Eight; body = sending.body } in
      subst GoesTo (some_is made going e) (record { may = may; servers = h; owner = is_there (is_receiver c (is_for_servers sending.body)) sending.to owner h (and_parts (list_any (λ server. server == owner) sending.to) (not (list_any (λ server. server == kernel) sending.to)) (and_parts (list_any (λ server. server == owner) sending.to && not (list_any (λ server. server == kernel) sending.to)) (are_apart sending.to) is).0).0 })

  going_to : (o : Option ℕ) (kernel : ℕ) (sending : Sending) (going : Going) → may_be_asked c sending.body ≡ true → goes_by o kernel sending ≡ Some going → AllByRecursion (λ kernel. is_receiver c (is_for_servers sending.body) kernel ≡ true) sending.to → GoesTo going
  going_to None kernel sending going may e h = called_to (other_than kernel sending.to) kernel sending going may refl e h
  going_to (Some owner) kernel sending going may e h = broadcast_goes (may_go_to sending.to kernel owner) kernel owner sending going may refl e h

  fresh_take : (request : Request) (servers : List ℕ) → AllByRecursion (λ kernel. is_receiver c (is_for_servers request) kernel ≡ true) servers → Takes request (map fresh servers)
  fresh_take request [] h = tt
  fresh_take request (server ∷ servers) h = (h.0, fresh_take request servers h.1)

  right_begins : (kernel : ℕ) (sending : Sending) (going : Going) (machine : Machine) (old new : Counts) (act : Act) → IsInside c kernel → fits c sending ≡ true → goes c kernel sending ≡ Some going → IsBegin kernel machine going act → MayAct machine old act new → Right machine → Right (after machine act)
  right_begins kernel sending going machine old new act there fit planned is may h =
      let packet : Packet = packet_to kernel (next_of machine) going in
      let begun : Call = new_call machine kernel is.port going.servers going.owner (spelling packet) going.tries (about_of going.body) is.before in
      let parts = and_parts (may_be_asked c sending.body) (list_all (is_receiver c (is_for_servers sending.body)) sending.to) fit in
      let to : GoesTo going = going_to (owner_of c sending.body) kernel sending going parts.0 planned (list_each (is_receiver c (is_for_servers sending.body)) sending.to parts.1) in
      subst (λ (a : Act). Right (after machine a)) (sym is.is)
      (each_push (GoesRight c) machine.unfinished begun h (record {
        request = going.body;
        asks = ap request_read (spelled_is_read packet is.is_packet);
        may = to.may;
        owner = to.owner;
        receivers = fresh_take going.body going.servers to.servers;
        low = there.0;
        high = there.1;
      }))

  pub right_bears : Bears c (IsInside c) Right
  right_bears = record { begins = right_begins; answers = right_answers; others = right_others }
