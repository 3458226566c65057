-- A remote call begins.
use Rattle.std.proofs.Common.{◌≡◌, ◌≢◌, ℕ, true, false, ◌==◌, List, [], ◌∷◌, ◌++◌, length, map, Bool, Option, Some, None, IsSome, Result, Ok, Err, OnOk, refl, sym, ap, ap₂, subst, ◌∙◌, append-nil, append_assoc}
use Rattle.std.specs.List.{list_any}
use Rattle.std.proofs.lemmas.List.{map-append}
use Rattle.sprite_ids.specs.declared.TxNo.{TxNo}
use Rattle.sprite_ids.specs.declared.Tries.{Tries}
use Rattle.sprite_ids.specs.declared.Tries.TheVariants.{Eight}
use Rattle.link_plan.specs.declared.Fate.{Fate}
use Rattle.link_plan.specs.Counts.{Asks, IsAsked}
use Rattle.kernel_rpc.specs.Machine.{Machine, begun, is_free, new_call}
use Rattle.kernel_rpc.specs.Ports.{AreUsed}
use Rattle.kernel_rpc.specs.Runs.{Act, Begin, Counts, after}
use Rattle.kernel_rpc.specs.Servers.{AreApart, pairs}
use Rattle.kernel_rpc.specs.Sound.{Wired}
use Rattle.kernel_rpc.proofs.StepLaws.{begin_step, broadcast_step}
use Rattle.kernel_steps.specs.declared.Sending.{Sending}
use Rattle.packet_bodies.specs.About.{about_of}
use Rattle.packet_bodies.specs.declared.Request.{Request}
use Rattle.unix_calls.specs.declared.Description.{Description}
use Rattle.wire_format.specs.Packets.{IsPacket, spelling}
use Rattle.cluster_wire.specs.declared.telling.Sent.{Sent}
use Rattle.cluster_wire.specs.Calling.{BeginsIf, BeginsSo, IsBegin, sent_as, sent_by}
use Rattle.cluster_wire.specs.Faults.{packets}
use Rattle.cluster_wire.specs.Goings.{AllGo, Going, broadcast_to, goes, least_of, may_go_to, next_of, packet_to}
use Rattle.cluster_wire.specs.Ran.{EachDone}
use Rattle.cluster_wire.proofs.RanLaws.{DidOne, does_one}

-- what holds where a call goes well
pub on_ok : {A E P Q : Type 0} (r : Result A E) → (P → Q) → OnOk r P → OnOk r Q
on_ok (Ok x) leads holds = leads holds
on_ok (Err e) leads holds = tt

-- a broadcast to these servers
abbrev pub broadcast_as : ℕ → Request → List ℕ → ℕ → Going
broadcast_as owner body servers to = record { servers = servers; to = to; owner = owner; tries = Eight; body = body }

-- the broadcast that may go
pub may_go : (kernel owner least : ℕ) (sending : Sending) (servers : List ℕ) (may : Bool) → servers ≡ sending.to → may ≡ may_go_to servers kernel owner → may ≡ true → least ≡ least_of servers owner → broadcast_to (may_go_to sending.to kernel owner) owner sending ≡ Some (broadcast_as owner sending.body servers least)
may_go kernel owner least sending servers may same is yes_may least_is =
    ap (λ (b : Bool). broadcast_to b owner sending) (ap (λ (servers : List ℕ). may_go_to servers kernel owner) (sym same) ∙ sym is ∙ yes_may)
    ∙ ap₂ (λ (servers : List ℕ) (to : ℕ). Some (broadcast_as owner sending.body servers to)) (sym same) (sym (least_is ∙ ap (λ (servers : List ℕ). least_of servers owner) same))

-- the packet of a call has the next number
packet_is : (kernel : ℕ) (machine : Machine) (tx : TxNo) (going : Going) → tx ≡ next_of machine → spelling (packet_to kernel tx going) ≡ spelling (packet_to kernel (next_of machine) going)
packet_is kernel machine tx going is = ap (λ (tx : TxNo). spelling (packet_to kernel tx going)) is

-- the call of one kernel
pub call_begins : {L : Type 0} (faults asked : L → ℕ → ℕ → ℕ) (kernel port to : ℕ) (tx number : TxNo) (going : Going) (o : Option Going) (about : Option (ℕ × ℕ)) (given : Fate) (old new : Wired L) (held sent : List Sent) → o ≡ Some going → going.servers ≡ to ∷ [] → going.owner ≡ to → about ≡ about_of going.body → tx ≡ next_of old.machine → kernel ≢ to → is_free old.machine kernel port ≡ true → AreUsed old.machine kernel port → IsAsked (faults old.link) (asked old.link) (faults new.link) (asked new.link) kernel to given → new.machine ≡ begun (new_call old.machine kernel port (to ∷ []) to (spelling (packet_to kernel tx going)) going.tries about (faults old.link kernel to)) ((to, given) ∷ []) old.machine → IsPacket (packet_to kernel tx going) → number ≡ next_of old.machine → sent ≡ held ++ record { tx = number; to = to; fate = given } ∷ [] → BeginsIf faults asked kernel o old new held sent
call_begins {L} faults asked kernel port to tx number going o about given old new held sent goes_so to_one by_one names is apart free least asks there known numbered grown =
    subst (λ (o : Option Going). BeginsIf faults asked kernel o old new held sent) (sym goes_so) so
  where
    act_is : Begin kernel port (to ∷ []) to (spelling (packet_to kernel tx going)) going.tries (about_of going.body) (faults old.link kernel to) ((to, given) ∷ []) ≡ Begin kernel port going.servers going.owner (spelling (packet_to kernel (next_of old.machine) going)) going.tries (about_of going.body) (faults old.link kernel to) ((to, given) ∷ [])
    act_is = ap₂ (λ (servers : List ℕ) (owner : ℕ). Begin kernel port servers owner (spelling (packet_to kernel tx going)) going.tries (about_of going.body) (faults old.link kernel to) ((to, given) ∷ [])) (sym to_one) (sym by_one)
        ∙ ap (λ (body : List ℕ). Begin kernel port going.servers going.owner body going.tries (about_of going.body) (faults old.link kernel to) ((to, given) ∷ [])) (packet_is kernel old.machine tx going is)

    so : BeginsSo faults asked kernel going old new held sent
    so = record {
      act = Begin kernel port (to ∷ []) to (spelling (packet_to kernel tx going)) going.tries (about_of going.body) (faults old.link kernel to) ((to, given) ∷ []);
      is = record { port = port; least = least; before = faults old.link kernel to; fates = (to, given) ∷ []; is_packet = subst (λ (tx : TxNo). IsPacket (packet_to kernel tx going)) is known; is = act_is };
      step = begin_step faults asked old new kernel port to (spelling (packet_to kernel tx going)) going.tries (about_of going.body) given apart free asks
          (there ∙ ap (λ (about : Option (ℕ × ℕ)). begun (new_call old.machine kernel port (to ∷ []) to (spelling (packet_to kernel tx going)) going.tries about (faults old.link kernel to)) ((to, given) ∷ []) old.machine) names);
      told = grown ∙ ap (λ (tx : TxNo). held ++ record { tx = tx; to = to; fate = given } ∷ []) numbered;
    }

-- a broadcast
pub broadcast_begins : {L : Type 0} (faults asked : L → ℕ → ℕ → ℕ) (kernel port : ℕ) (tx number : TxNo) (going : Going) (o : Option Going) (about : Option (ℕ × ℕ)) (fates : List Fate) (old new : Wired L) (held sent : List Sent) → o ≡ Some going → going.tries ≡ Eight → about ≡ about_of going.body → tx ≡ next_of old.machine → list_any (λ server. server == kernel) going.servers ≡ false → AreApart going.servers → list_any (λ server. server == going.owner) going.servers ≡ true → is_free old.machine kernel port ≡ true → AreUsed old.machine kernel port → length fates ≡ length going.servers → Asks faults asked kernel old.link new.link (pairs going.servers fates) → new.machine ≡ begun (new_call old.machine kernel port going.servers going.owner (spelling (packet_to kernel tx going)) Eight about (faults old.link kernel going.owner)) (pairs going.servers fates) old.machine → IsPacket (packet_to kernel tx going) → number ≡ next_of old.machine → sent ≡ held ++ map (sent_as number) (pairs going.servers fates) → BeginsIf faults asked kernel o old new held sent
broadcast_begins {L} faults asked kernel port tx number going o about fates old new held sent goes_so eight names is away apart owns free least many asks there known numbered grown =
    subst (λ (o : Option Going). BeginsIf faults asked kernel o old new held sent) (sym goes_so) so
  where
    act_is : Begin kernel port going.servers going.owner (spelling (packet_to kernel tx going)) Eight (about_of going.body) (faults old.link kernel going.owner) (pairs going.servers fates) ≡ Begin kernel port going.servers going.owner (spelling (packet_to kernel (next_of old.machine) going)) going.tries (about_of going.body) (faults old.link kernel going.owner) (pairs going.servers fates)
    act_is = ap₂ (λ (body : List ℕ) (tries : Tries). Begin kernel port going.servers going.owner body tries (about_of going.body) (faults old.link kernel going.owner) (pairs going.servers fates)) (packet_is kernel old.machine tx going is) (sym eight)

    so : BeginsSo faults asked kernel going old new held sent
    so = record {
      act = Begin kernel port going.servers going.owner (spelling (packet_to kernel tx going)) Eight (about_of going.body) (faults old.link kernel going.owner) (pairs going.servers fates);
      is = record { port = port; least = least; before = faults old.link kernel going.owner; fates = pairs going.servers fates; is_packet = subst (λ (tx : TxNo). IsPacket (packet_to kernel tx going)) is known; is = act_is };
      step = broadcast_step faults asked old new kernel port going.servers going.owner (spelling (packet_to kernel tx going)) (about_of going.body) fates away apart owns free many asks
          (there ∙ ap (λ (about : Option (ℕ × ℕ)). begun (new_call old.machine kernel port going.servers going.owner (spelling (packet_to kernel tx going)) Eight about (faults old.link kernel going.owner)) (pairs going.servers fates) old.machine) names);
      told = grown ∙ ap (λ (tx : TxNo). held ++ map (sent_as tx) (pairs going.servers fates)) numbered;
    }

-- the packets of a broadcast come to a list: the first, and then the others
pub sent_first : (old between new : List Sent) (tx : TxNo) (to : ℕ) (fate : Fate) (more : List (ℕ × Fate)) → between ≡ old ++ record { tx = tx; to = to; fate = fate } ∷ [] → new ≡ between ++ map (sent_as tx) more → new ≡ old ++ map (sent_as tx) ((to, fate) ∷ more)
sent_first old between new tx to fate more is next = next ∙ ap (λ (front : List Sent). front ++ map (sent_as tx) more) is ∙ append_assoc old (record { tx = tx; to = to; fate = fate } ∷ []) (map (sent_as tx) more)

-- where they went
packets_as : (tx : TxNo) (sent : List (ℕ × Fate)) → packets (map (sent_as tx) sent) ≡ sent
packets_as tx [] = refl
packets_as tx (packet ∷ sent) = ap (λ rest. packet ∷ rest) (packets_as tx sent)

pub packets_grow : (old new : List Sent) (tx : TxNo) (sent : List (ℕ × Fate)) → new ≡ old ++ map (sent_as tx) sent → packets new ≡ packets old ++ sent
packets_grow old new tx sent is = ap packets is ∙ map-append (λ (packet : Sent). (packet.to, packet.fate)) old (map (sent_as tx) sent) ∙ ap (λ rest. packets old ++ rest) (packets_as tx sent)

-- a remote call of a step begins
pub did_begin : {L : Type 0} (faults asked : L → ℕ → ℕ → ℕ) (c : Description) (kernel : ℕ) (sending : Sending) (old new : Wired L) (held sent : List Sent) → BeginsIf faults asked kernel (goes c kernel sending) old new held sent → DidOne faults asked (λ (machine : Machine) (sending : Sending). goes c kernel sending) (IsBegin kernel) sent_by sending old new held sent
did_begin {L} faults asked c kernel sending old new held sent begins = by_going (goes c kernel sending) refl begins
  where
    by_going : (o : Option Going) → goes c kernel sending ≡ o → BeginsIf faults asked kernel o old new held sent → DidOne faults asked (λ (machine : Machine) (sending : Sending). goes c kernel sending) (IsBegin kernel) sent_by sending old new held sent
    by_going None is begins = absurd begins
    by_going (Some going) is begins = record { more = sent_by old.machine begins.act; grown = begins.told; did = does_one faults asked (λ (machine : Machine) (sending : Sending). goes c kernel sending) (IsBegin kernel) sent_by sending going begins.act old new (sent_by old.machine begins.act) is begins.is begins.step refl }

-- where all remote calls of a list begin, all of them go out
pub all_go : (c : Description) (kernel : ℕ) (sendings : List Sending) (machine : Machine) (steps : List (Act × Counts)) → EachDone (λ (machine : Machine) (sending : Sending). goes c kernel sending) (IsBegin kernel) sendings machine steps → AllGo c kernel sendings
all_go c kernel [] machine steps done = tt
all_go c kernel (sending ∷ sendings) machine [] done = absurd done
all_go c kernel (sending ∷ sendings) machine (step ∷ steps) done = (subst IsSome (sym done.0.planned) refl, all_go c kernel sendings (after machine step.0) steps done.1)
