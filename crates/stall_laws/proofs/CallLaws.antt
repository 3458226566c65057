-- What is so of each unfinished call of the wire: what it asks, to whom it went, and who has its request; and what calls of the wire keep.
use Rattle.std.proofs.Common.{◌≡◌, ℕ, ◌≤◌, ◌⊎◌, inl, inr, Bool, true, false, cond, List, [], ◌∷◌, length, map, Option, Some, None, option_map, refl, sym, ap, subst, ◌∙◌, true≢false}
use Rattle.std.specs.List.{AllByRecursion}
use Rattle.sprite_ids.specs.declared.Tries.TheVariants.{Eight}
use Rattle.sprite_ids.specs.declared.TxNo.{TxNo}
use Rattle.sprite_ids.specs.Lists.{changed}
use Rattle.sprite_ids.proofs.ListLaws.{each_push, some_is}
use Rattle.link_plan.specs.declared.Fate.{Fate}
use Rattle.kernel_rpc.specs.declared.call.Arrival.{Arrival}
use Rattle.kernel_rpc.specs.declared.call.Arrival.TheVariants.{FirstRequest, FirstReply, AskedAgain, Past}
use Rattle.kernel_rpc.specs.declared.call.Call.{Call}
use Rattle.kernel_rpc.specs.declared.call.PacketCopy.{PacketCopy}
use Rattle.kernel_rpc.specs.declared.call.Part.{Part}
use Rattle.kernel_rpc.specs.declared.call.Part.TheVariants.{Answered, Silent}
use Rattle.kernel_rpc.specs.Histories.{reached}
use Rattle.kernel_rpc.specs.Machine.{Machine, answered, arrival, call_of, copy_of, delivered_as, fresh, further, gave_up, is_call, is_holding, is_last, landed, new_call, replied, resent, tried}
use Rattle.kernel_rpc.specs.Runs.{Act, Begin, Deliver, Answer, Silence, Expire, Counts, IsRun, MayAct, after, delivered_by, expired_by}
use Rattle.kernel_rpc.specs.Servers.{AreApart}
use Rattle.kernel_rpc.proofs.ComeLaws.{kernels_kept}
use Rattle.kernel_rpc.proofs.CopyLaws.{each_without}
use Rattle.kernel_rpc.proofs.RunLaws.{Ordered, ordered_after, unfinished_replied}
use Rattle.kernel_rpc.proofs.TryLaws.{each_kept}
use Rattle.kernel_steps.specs.declared.Sending.{Sending}
use Rattle.packet_bodies.specs.About.{about_of}
use Rattle.packet_bodies.specs.declared.Body.TheVariants as bodies
use Rattle.packet_bodies.specs.declared.ReplyBody.{ReplyBody}
use Rattle.packet_bodies.specs.declared.Request.{Request}
use Rattle.packet_bodies.specs.declared.Request.TheVariants as requests
use Rattle.unix_calls.specs.declared.Description.{Description}
use Rattle.wire_format.specs.declared.Packet.{Packet}
use Rattle.wire_format.specs.Packets.{reading, spelling}
use Rattle.wire_format.specs.PacketLaws.{spelled_is_read}
use Rattle.cluster_wire.specs.Arriving.{is_prefix}
use Rattle.cluster_wire.specs.Calling.{IsBegin}
use Rattle.cluster_wire.specs.Goings.{Going, broadcast_to, call_to, goes, goes_by, least_of, may_go_to, next_of, other_than, owner_of, packet_to}
use Rattle.cluster_wire.specs.Ran.{EachDone}
use Rattle.cluster_wire.specs.Replying.{IsAnswer, goes_back, reply_packet}
use Rattle.stall_laws.proofs.ReceiverLaws.{AreAll, HeldBy, all_with, held_fresh, held_weaken, held_with, kernels_fresh, kernels_of}

-- its request can be read, and its packet names the caller; it goes to each of its receivers once, and to its owner alone where it doesn't
-- ask for the server of a prefix; it comes from a kernel of the description; and who has its request is its owner, or one that may have it
pub record CallSo (c : Description) (May : TxNo → List ℕ → ℕ → Type 0) (call : Call) : Type 0 where
  pub packet : Packet
  pub request : Request
  pub reads : reading call.body ≡ Some packet
  pub source : packet.from ≡ call.from
  pub is : packet.body ≡ bodies.Request request
  pub apart : AreApart (kernels_of call.receivers)
  pub single : is_prefix request ≡ false → AreAll call.owner call.receivers
  pub low : 1 ≤ call.from
  pub high : call.from ≤ length c.kernels
  pub held : HeldBy (λ kernel. (kernel ≡ call.owner) ⊎ May call.tx call.body kernel) call.receivers

-- nobody else
abbrev pub Nobody : TxNo → List ℕ → ℕ → Type 0
Nobody tx body kernel = ⊥

-- ---- calls of the wire that neither begin a call nor hand out its request

-- whether it is so
abbrev pub IsQuiet : Machine → Act → Type 0
IsQuiet machine (Begin from port servers owner body tries about before sent) = ⊥
IsQuiet machine (Deliver number given) = (copy : PacketCopy) → copy_of machine number ≡ Some copy → arrival machine copy ≡ FirstRequest → ⊥
IsQuiet machine (Answer tx body given) = ⊥
IsQuiet machine (Silence tx at) = Unit {0}
IsQuiet machine (Expire tx sent) = Unit {0}

-- what a fact of each call must bear
pub record Bears (F : Call → Type 0) : Type 0 where
  pub tried_so : (call : Call) → F call → F (tried call)
  pub silent_so : (at : ℕ) (call : Call) → F call → F (further at Silent call)
  pub answered_so : (reply : List ℕ) (call : Call) → F call → F (answered reply call)

module _ (F : Call → Type 0) (bears : Bears F) where
  arrived_keeps : (a : Arrival) (copy : PacketCopy) (given : Fate) (machine : Machine) → (a ≡ FirstRequest → ⊥) → AllByRecursion F machine.unfinished → AllByRecursion F (delivered_as a copy given (landed copy machine)).unfinished
  arrived_keeps FirstRequest copy given machine off h = absurd (off refl)
  arrived_keeps FirstReply copy given machine off h = each_without F (is_call copy.tx) machine.unfinished h
  arrived_keeps AskedAgain copy given machine off h = subst (AllByRecursion F) (sym (unfinished_replied (call_of (landed copy machine) copy.tx) given (landed copy machine)).0) h
  arrived_keeps Past copy given machine off h = h

  delivered_keeps : (o : Option PacketCopy) (given : Fate) (machine : Machine) → ((copy : PacketCopy) → o ≡ Some copy → arrival machine copy ≡ FirstRequest → ⊥) → AllByRecursion F machine.unfinished → AllByRecursion F (delivered_by o given machine).unfinished
  delivered_keeps None given machine off h = h
  delivered_keeps (Some copy) given machine off h = arrived_keeps (arrival machine copy) copy given machine (off copy refl) h

  expired_keeps : (o : Option Call) (tx : TxNo) (sent : List (ℕ × Fate)) (machine : Machine) → AllByRecursion F machine.unfinished → AllByRecursion F (expired_by tx o sent machine).unfinished
  expired_keeps None tx sent machine h = h
  expired_keeps (Some call) tx sent machine h =
      elim (is_last call) as (λ b. AllByRecursion F (cond b (gave_up tx machine) (resent tx (Some call) sent machine)).unfinished) [ true ↦ each_without F (is_call tx) machine.unfinished h | false ↦ each_kept F (is_call tx) tried bears.tried_so machine.unfinished h ]

  pub quiet_keeps : (act : Act) (machine : Machine) → IsQuiet machine act → AllByRecursion F machine.unfinished → AllByRecursion F (after machine act).unfinished
  quiet_keeps (Begin from port servers owner body tries about before sent) machine quiet h = absurd quiet
  quiet_keeps (Deliver number given) machine quiet h = delivered_keeps (copy_of machine number) given machine quiet h
  quiet_keeps (Answer tx body given) machine quiet h = absurd quiet
  quiet_keeps (Silence tx at) machine quiet h = each_kept F (is_call tx) (further at Silent) (bears.silent_so at) machine.unfinished h
  quiet_keeps (Expire tx sent) machine quiet h = expired_keeps (call_of machine tx) tx sent machine h

  -- calls that are answered

  answered_keeps : (o : Option Call) (tx : TxNo) (reply : List ℕ) (given : Fate) (machine : Machine) → AllByRecursion F machine.unfinished → AllByRecursion F (changed (is_call tx) (answered reply) (replied o given machine).unfinished)
  answered_keeps o tx reply given machine h = each_kept F (is_call tx) (answered reply) (bears.answered_so reply) (replied o given machine).unfinished (subst (AllByRecursion F) (sym (unfinished_replied o given machine).0) h)

  pub answers_keep : (kernel : ℕ) (answers : List (TxNo × ReplyBody)) (machine : Machine) (steps : List (Act × Counts)) → EachDone (goes_back kernel) IsAnswer answers machine steps → AllByRecursion F machine.unfinished → AllByRecursion F (reached machine steps).unfinished
  answers_keep kernel [] machine steps e h = subst (λ (all : List (Act × Counts)). AllByRecursion F (reached machine all).unfinished) (sym e) h
  answers_keep kernel (answer ∷ answers) machine [] e h = absurd e
  answers_keep kernel (answer ∷ answers) machine (step ∷ steps) e h =
      answers_keep kernel answers (after machine step.0) steps e.1
      (subst (λ (a : Act). AllByRecursion F (after machine a).unfinished) (sym e.0.done.is) (answered_keeps (call_of machine e.0.way.tx) e.0.way.tx (spelling e.0.way) e.0.done.given machine h))

-- calls that begin are so, too, where new ones are

pub begins_keep : (F : Call → Type 0) → ((machine : Machine) (from port : ℕ) (servers : List ℕ) (owner : ℕ) (body : List ℕ) (going : Going) (about : Option (ℕ × ℕ)) (before : ℕ) → F (new_call machine from port servers owner body going.tries about before))
    → (c : Description) (kernel : ℕ) (sendings : List Sending) (machine : Machine) (steps : List (Act × Counts)) → EachDone (λ (machine : Machine) (sending : Sending). goes c kernel sending) (IsBegin kernel) sendings machine steps → AllByRecursion F machine.unfinished → AllByRecursion F (reached machine steps).unfinished
begins_keep F new c kernel [] machine steps e h = subst (λ (all : List (Act × Counts)). AllByRecursion F (reached machine all).unfinished) (sym e) h
begins_keep F new c kernel (sending ∷ sendings) machine [] e h = absurd e
begins_keep F new c kernel (sending ∷ sendings) machine (step ∷ steps) e h =
    let going : Going = e.0.way in
    let is = e.0.done in
    begins_keep F new c kernel sendings (after machine step.0) steps e.1
    (subst (λ (a : Act). AllByRecursion F (after machine a).unfinished) (sym is.is)
    (each_push F machine.unfinished (new_call machine kernel is.port going.servers going.owner (spelling (packet_to kernel (next_of machine) going)) going.tries (about_of going.body) is.before) h
    (new machine kernel is.port going.servers going.owner (spelling (packet_to kernel (next_of machine) going)) going (about_of going.body) is.before)))

pub ordered_run : (steps : List (Act × Counts)) (machine : Machine) → Ordered machine → Ordered (reached machine steps)
ordered_run [] machine h = h
ordered_run (first ∷ rest) machine h = ordered_run rest (after machine first.0) (ordered_after machine first.0 h)

-- the packet of an answer is of the call that it answers
pub answer_tx : (kernel : ℕ) (answer : TxNo × ReplyBody) (o : Option ℕ) (packet : Packet) → option_map (reply_packet kernel answer) o ≡ Some packet → packet.tx ≡ answer.0
answer_tx kernel answer (Some to) packet e = ap (λ (p : Packet). p.tx) (sym (some_is (reply_packet kernel answer to) packet e))
answer_tx kernel answer None packet e = absurd (cc)

-- ---- what is so of each call

module _ (c : Description) (May : TxNo → List ℕ → ℕ → Type 0) where
  pub so_further : (at : ℕ) (part : Part) (call : Call) → (is_holding part ≡ true → (at ≡ call.owner) ⊎ May call.tx call.body at) → CallSo c May call → CallSo c May (further at part call)
  so_further at part call new k = record {
    packet = k.packet;
    request = k.request;
    reads = k.reads;
    source = k.source;
    is = k.is;
    apart = subst AreApart (sym (kernels_kept at part call.receivers)) k.apart;
    single = λ e. all_with call.owner at part call.receivers (k.single e);
    low = k.low;
    high = k.high;
    held = held_with (λ kernel. (kernel ≡ call.owner) ⊎ May call.tx call.body kernel) at part call.receivers new k.held;
  }

  so_bears : Bears (CallSo c May)
  so_bears = record {
    tried_so = λ call k. record { packet = k.packet; request = k.request; reads = k.reads; source = k.source; is = k.is; apart = k.apart; single = k.single; low = k.low; high = k.high; held = k.held };
    silent_so = λ at call k. so_further at Silent call (λ e. absurd (cc)) k;
    answered_so = λ reply call k. record {
      packet = k.packet;
      request = k.request;
      reads = k.reads;
      source = k.source;
      is = k.is;
      apart = subst AreApart (sym (kernels_kept call.owner Answered call.receivers)) k.apart;
      single = λ e. all_with call.owner call.owner Answered call.receivers (k.single e);
      low = k.low;
      high = k.high;
      held = held_with (λ kernel. (kernel ≡ call.owner) ⊎ May call.tx call.body kernel) call.owner Answered call.receivers (λ e. absurd (cc)) k.held;
    };
  }

  pub so_quiet : (act : Act) (machine : Machine) → IsQuiet machine act → AllByRecursion (CallSo c May) machine.unfinished → AllByRecursion (CallSo c May) (after machine act).unfinished
  so_quiet act machine quiet h = quiet_keeps (CallSo c May) so_bears act machine quiet h

  pub so_answers : (kernel : ℕ) (answers : List (TxNo × ReplyBody)) (machine : Machine) (steps : List (Act × Counts)) → EachDone (goes_back kernel) IsAnswer answers machine steps → AllByRecursion (CallSo c May) machine.unfinished → AllByRecursion (CallSo c May) (reached machine steps).unfinished
  so_answers kernel answers machine steps e h = answers_keep (CallSo c May) so_bears kernel answers machine steps e h

  -- ---- calls that begin

  prefix_asked : (body : Request) (server : ℕ) → owner_of c body ≡ Some server → is_prefix body ≡ true
  prefix_asked (requests.Prefix path) server e = refl
  prefix_asked body server e = absurd (cc)

  called_alone : (o : Option ℕ) (sending : Sending) (going : Going) → call_to o sending ≡ Some going → AreAll going.owner (map fresh going.servers)
  called_alone None sending going e = absurd (cc)
  called_alone (Some to) sending going e =
      let made : Going = record { servers = to ∷ []; to = to; owner = to; tries = sending.tries; body = sending.body } in
      subst (λ (g : Going). AreAll g.owner (map fresh g.servers)) (some_is made going e) (refl, tt)

  broadcast_asks : (b : Bool) (owner : ℕ) (sending : Sending) (going : Going) → broadcast_to b owner sending ≡ Some going → going.body ≡ sending.body
  broadcast_asks false owner sending going e = absurd (cc)
  broadcast_asks true owner sending going e =
      let made : Going = record { servers = sending.to; to = least_of sending.to owner; owner = owner; tries = Eight; body = sending.body } in
      ap (λ (g : Going). g.body) (sym (some_is made going e))

  alone_by : (o : Option ℕ) (kernel : ℕ) (sending : Sending) (going : Going) → owner_of c sending.body ≡ o → goes_by o kernel sending ≡ Some going → is_prefix going.body ≡ false → AreAll going.owner (map fresh going.servers)
  alone_by None kernel sending going asks e off = called_alone (other_than kernel sending.to) sending going e
  alone_by (Some server) kernel sending going asks e off =
      absurd (true≢false (sym (ap is_prefix (broadcast_asks (may_go_to sending.to kernel server) server sending going e) ∙ prefix_asked sending.body server asks) ∙ off))

  begin_so : (kernel : ℕ) (sending : Sending) (going : Going) (machine : Machine) (old new : Counts) (act : Act) → 1 ≤ kernel → kernel ≤ length c.kernels → goes c kernel sending ≡ Some going → IsBegin kernel machine going act → MayAct machine old act new → AllByRecursion (CallSo c May) machine.unfinished → AllByRecursion (CallSo c May) (after machine act).unfinished
  begin_so kernel sending going machine old new act low high planned is may h =
      let packet : Packet = packet_to kernel (next_of machine) going in
      let begun : Call = new_call machine kernel is.port going.servers going.owner (spelling packet) going.tries (about_of going.body) is.before in
      let allowed : MayAct machine old (Begin kernel is.port going.servers going.owner (spelling packet) going.tries (about_of going.body) is.before is.fates) new = subst (λ (a : Act). MayAct machine old a new) is.is may in
      subst (λ (a : Act). AllByRecursion (CallSo c May) (after machine a).unfinished) (sym is.is)
      (each_push (CallSo c May) machine.unfinished begun h (record {
        packet = packet;
        request = going.body;
        reads = spelled_is_read packet is.is_packet;
        source = refl;
        is = refl;
        apart = subst AreApart (sym (kernels_fresh going.servers)) allowed.1;
        single = λ e. alone_by (owner_of c sending.body) kernel sending going refl planned e;
        low = low;
        high = high;
        held = held_fresh (λ kernel. (kernel ≡ going.owner) ⊎ May begun.tx begun.body kernel) going.servers;
      }))

  pub begins_so : (kernel : ℕ) (sendings : List Sending) (machine : Machine) (counts : Counts) (steps : List (Act × Counts)) → 1 ≤ kernel → kernel ≤ length c.kernels → EachDone (λ (machine : Machine) (sending : Sending). goes c kernel sending) (IsBegin kernel) sendings machine steps → IsRun machine counts steps
      → AllByRecursion (CallSo c May) machine.unfinished → AllByRecursion (CallSo c May) (reached machine steps).unfinished
  begins_so kernel [] machine counts steps low high e run h = subst (λ (all : List (Act × Counts)). AllByRecursion (CallSo c May) (reached machine all).unfinished) (sym e) h
  begins_so kernel (sending ∷ sendings) machine counts [] low high e run h = absurd e
  begins_so kernel (sending ∷ sendings) machine counts (step ∷ steps) low high e run h =
      begins_so kernel sendings (after machine step.0) step.1 steps low high e.1 run.1 (begin_so kernel sending e.0.way machine counts step.1 step.0 low high e.0.planned e.0.done run.0 h)

pub so_weaken : (c : Description) (May Other : TxNo → List ℕ → ℕ → Type 0) (call : Call) → ((kernel : ℕ) → May call.tx call.body kernel → (kernel ≡ call.owner) ⊎ Other call.tx call.body kernel) → CallSo c May call → CallSo c Other call
so_weaken c May Other call weaken k = record {
  packet = k.packet;
  request = k.request;
  reads = k.reads;
  source = k.source;
  is = k.is;
  apart = k.apart;
  single = k.single;
  low = k.low;
  high = k.high;
  held = held_weaken (λ kernel. (kernel ≡ call.owner) ⊎ May call.tx call.body kernel) (λ kernel. (kernel ≡ call.owner) ⊎ Other call.tx call.body kernel) call.receivers by k.held;
}
  where
    by : (kernel : ℕ) → (kernel ≡ call.owner) ⊎ May call.tx call.body kernel → (kernel ≡ call.owner) ⊎ Other call.tx call.body kernel
    by kernel (inl same) = inl same
    by kernel (inr may) = weaken kernel may

-- another holding: the rest stays
pub so_held : (c : Description) (May Other : TxNo → List ℕ → ℕ → Type 0) (call : Call) → HeldBy (λ kernel. (kernel ≡ call.owner) ⊎ Other call.tx call.body kernel) call.receivers → CallSo c May call → CallSo c Other call
so_held c May Other call held k = record {
  packet = k.packet;
  request = k.request;
  reads = k.reads;
  source = k.source;
  is = k.is;
  apart = k.apart;
  single = k.single;
  low = k.low;
  high = k.high;
  held = held;
}
