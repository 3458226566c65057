-- A copy comes, a server goes silent, and a timer fires.
use Rattle.std.proofs.Common.{◌≡◌, ℕ, Bool, true, false, Option, Some, None, refl, sym, ap, ap₂, subst, ◌∙◌}
use Rattle.std.proofs.lemmas.Bool.{and_parts, eqb-true}
use Rattle.sprite_ids.specs.declared.CopyNo.{CopyNo}
use Rattle.sprite_ids.specs.declared.TxNo.{TxNo}
use Rattle.sprite_ids.proofs.ListLaws.{some_is}
use Rattle.link_plan.specs.declared.Fate.{Fate}
use Rattle.link_plan.specs.declared.Fate.TheVariants.{Once}
use Rattle.link_plan.specs.Counts.{Asks, IsAsked}
use Rattle.kernel_rpc.specs.Bodies.{IsMessage, body_of, reply_of}
use Rattle.kernel_rpc.specs.Links.{AsksBack}
use Rattle.kernel_rpc.specs.Results.{Delivers, Expires, HandsOut}
use Rattle.kernel_rpc.specs.declared.call.Arrival.{Arrival}
use Rattle.kernel_rpc.specs.declared.Call.{Call}
use Rattle.kernel_rpc.specs.declared.PacketCopy.{PacketCopy}
use Rattle.kernel_rpc.specs.declared.Delivered.{Delivered}
use Rattle.kernel_rpc.specs.declared.Delivered.TheVariants as delivered
use Rattle.kernel_rpc.specs.declared.Expired.{Expired}
use Rattle.kernel_rpc.specs.declared.Expired.TheVariants.{Resent, GivenUp}
use Rattle.kernel_rpc.specs.Machine.{call_of, copy_of, may_be_silent, may_expire, owner_of, silent}
use Rattle.kernel_rpc.specs.Runs.{Deliver}
use Rattle.kernel_rpc.specs.Sound.{Wired}
use Rattle.kernel_rpc.specs.Steps.{IsStep, sent_in}
use Rattle.kernel_rpc.proofs.StepLaws.{deliver_step, expire_step, silent_step}
use Rattle.packet_bodies.specs.declared.Body.{Body}
use Rattle.packet_bodies.specs.declared.Body.TheVariants as bodies
use Rattle.wire_format.specs.declared.Packet.{Packet}
use Rattle.wire_format.specs.Packets.{reading}
use Rattle.cluster_wire.specs.declared.arriving.Arrived.{Arrived}
use Rattle.cluster_wire.specs.declared.arriving.Arrived.TheVariants as arrived
use Rattle.cluster_wire.specs.Arriving.{Arrives, AskedBack, Brings, SilentIf, given_in, reply_in, request_in}
use Rattle.cluster_wire.specs.Firing.{Fires, gives_up, is_from, is_last_in, may_fire}
use Rattle.cluster_wire.specs.Links.{ends_of}
use Rattle.cluster_wire.specs.Replying.{caller_of}

-- what is handed out of a copy in flight
handed : {L : Type 0} (faults asked : L → ℕ → ℕ → ℕ) (old new : Wired L) (number : CopyNo) (copy : PacketCopy) (given : Delivered Packet) → copy_of old.machine number ≡ Some copy → Delivers reading faults asked old new (copy_of old.machine number) given → HandsOut reading faults asked old new copy given
handed faults asked old new number copy given flying delivers = subst (λ (o : Option PacketCopy). Delivers reading faults asked old new o given) flying delivers

-- a message that comes for the first time has no fate of a reply, and the link isn't asked
request_plain : (tx : TxNo) (from : ℕ) (body : Body) → given_in (request_in tx from body) ≡ Once
request_plain tx from (bodies.Request body) = refl
request_plain tx from (bodies.Reply body) = refl

reply_plain : (tx : TxNo) (from : ℕ) (body : Body) → given_in (reply_in tx from body) ≡ Once
reply_plain tx from (bodies.Request body) = refl
reply_plain tx from (bodies.Reply body) = refl

request_unasked : {L : Type 0} (faults asked : L → ℕ → ℕ → ℕ) (before after : L) (tx : TxNo) (from : ℕ) (body : Body) → after ≡ before → AskedBack faults asked before after (request_in tx from body)
request_unasked faults asked before after tx from (bodies.Request body) same = same
request_unasked faults asked before after tx from (bodies.Reply body) same = same

reply_unasked : {L : Type 0} (faults asked : L → ℕ → ℕ → ℕ) (before after : L) (tx : TxNo) (from : ℕ) (body : Body) → after ≡ before → AskedBack faults asked before after (reply_in tx from body)
reply_unasked faults asked before after tx from (bodies.Request body) same = same
reply_unasked faults asked before after tx from (bodies.Reply body) same = same

-- the request comes for the first time
pub request_arrives : {L : Type 0} (faults asked : L → ℕ → ℕ → ℕ) (number : CopyNo) (copy : PacketCopy) (tx : TxNo) (message : Packet) (came : Arrived) (old new : Wired L) → copy_of old.machine number ≡ Some copy → Delivers reading faults asked old new (copy_of old.machine number) (delivered.Request tx message) → came ≡ request_in copy.tx message.from message.body → Arrives faults asked number copy came old new
request_arrives {L} faults asked number copy tx message came old new flying delivers is =
    (let given = handed faults asked old new number copy (delivered.Request tx message) flying delivers in record {
      brings = subst (λ (a : Arrival). Brings a old.machine copy came) (sym given.0) (message, subst (λ (tx : TxNo). IsMessage reading (body_of (call_of old.machine tx)) message) given.1 given.2, is);
      step = subst (λ (what : Fate). IsStep faults asked old (Deliver number what) new) (sym (ap given_in is ∙ request_plain copy.tx message.from message.body)) (deliver_step reading faults asked old new number (delivered.Request tx message) delivers);
      asks = subst (λ (came : Arrived). AskedBack faults asked old.link new.link came) (sym is) (request_unasked faults asked old.link new.link copy.tx message.from message.body given.3);
    })

-- the reply comes for the first time
pub reply_arrives : {L : Type 0} (faults asked : L → ℕ → ℕ → ℕ) (number : CopyNo) (copy : PacketCopy) (tx : TxNo) (message : Packet) (came : Arrived) (old new : Wired L) → copy_of old.machine number ≡ Some copy → Delivers reading faults asked old new (copy_of old.machine number) (delivered.Reply tx message) → came ≡ reply_in copy.tx message.from message.body → Arrives faults asked number copy came old new
reply_arrives {L} faults asked number copy tx message came old new flying delivers is =
    (let given = handed faults asked old new number copy (delivered.Reply tx message) flying delivers in record {
      brings = subst (λ (a : Arrival). Brings a old.machine copy came) (sym given.0) (message, subst (λ (tx : TxNo). IsMessage reading (reply_of (call_of old.machine tx)) message) given.1 given.2, is);
      step = subst (λ (what : Fate). IsStep faults asked old (Deliver number what) new) (sym (ap given_in is ∙ reply_plain copy.tx message.from message.body)) (deliver_step reading faults asked old new number (delivered.Reply tx message) delivers);
      asks = subst (λ (came : Arrived). AskedBack faults asked old.link new.link came) (sym is) (reply_unasked faults asked old.link new.link copy.tx message.from message.body given.3);
    })

-- the ends of a call
owner_is : (o : Option Call) (from to : ℕ) → ends_of o ≡ Some (from, to) → owner_of o ≡ from
owner_is None from to is = absurd (cc)
owner_is (Some call) from to is = ap (λ (ends : ℕ × ℕ). ends.0) (some_is (call.owner, call.from) (from, to) is)

caller_is : (o : Option Call) (from to : ℕ) → ends_of o ≡ Some (from, to) → caller_of o ≡ to
caller_is None from to is = absurd (cc)
caller_is (Some call) from to is = ap (λ (ends : ℕ × ℕ). ends.1) (some_is (call.owner, call.from) (from, to) is)

back_asks : {L : Type 0} (faults asked : L → ℕ → ℕ → ℕ) (before after : L) (given : Fate) (o : Option Call) → AsksBack faults asked before after given o → IsAsked (faults before) (asked before) (faults after) (asked after) (owner_of o) (caller_of o) given
back_asks faults asked before after given None asks = absurd asks
back_asks faults asked before after given (Some call) asks = asks

-- the request comes once more
pub again_arrives : {L : Type 0} (faults asked : L → ℕ → ℕ → ℕ) (number : CopyNo) (copy : PacketCopy) (tx : TxNo) (given : Fate) (from to : ℕ) (old new : Wired L) → copy_of old.machine number ≡ Some copy → ends_of (call_of old.machine copy.tx) ≡ Some (from, to) → Delivers reading faults asked old new (copy_of old.machine number) (delivered.Repeated tx given) → Arrives faults asked number copy (arrived.Again from to given) old new
again_arrives {L} faults asked number copy tx given from to old new flying ends delivers =
    (let out = handed faults asked old new number copy (delivered.Repeated tx given) flying delivers in
    let owns = owner_is (call_of old.machine copy.tx) from to ends in
    let calls = caller_is (call_of old.machine copy.tx) from to ends in
    let asks : AsksBack faults asked old.link new.link given (call_of old.machine copy.tx) = subst (λ (tx : TxNo). AsksBack faults asked old.link new.link given (call_of old.machine tx)) out.1 out.2 in record {
      brings = subst (λ (a : Arrival). Brings a old.machine copy (arrived.Again from to given)) (sym out.0) (given, ap₂ (λ (from to : ℕ). arrived.Again from to given) (sym owns) (sym calls));
      step = deliver_step reading faults asked old new number (delivered.Repeated tx given) delivers;
      asks = subst (λ (to : ℕ). IsAsked (faults old.link) (asked old.link) (faults new.link) (asked new.link) from to given) calls
          (subst (λ (from : ℕ). IsAsked (faults old.link) (asked old.link) (faults new.link) (asked new.link) from (caller_of (call_of old.machine copy.tx)) given) owns
          (back_asks faults asked old.link new.link given (call_of old.machine copy.tx) asks));
    })

-- a copy that its call is past
pub old_arrives : {L : Type 0} (faults asked : L → ℕ → ℕ → ℕ) (number : CopyNo) (copy : PacketCopy) (old new : Wired L) → copy_of old.machine number ≡ Some copy → Delivers reading faults asked old new (copy_of old.machine number) delivered.Old → Arrives faults asked number copy arrived.Old old new
old_arrives {L} faults asked number copy old new flying delivers =
    (let out = handed faults asked old new number copy delivered.Old flying delivers in record {
      brings = subst (λ (a : Arrival). Brings a old.machine copy arrived.Old) (sym out.0) refl;
      step = deliver_step reading faults asked old new number delivered.Old delivers;
      asks = out.1;
    })

-- a server goes silent
pub goes_silent : {L : Type 0} (faults asked : L → ℕ → ℕ → ℕ) (b : Bool) (tx : TxNo) (kernel : ℕ) (old new : Wired L) → b ≡ true → may_be_silent old.machine tx kernel ≡ true → new.link ≡ old.link → new.machine ≡ silent tx kernel old.machine → SilentIf faults asked b tx kernel old new
goes_silent faults asked b tx kernel old new is may same there = subst (λ (b : Bool). SilentIf faults asked b tx kernel old new) (sym is) (silent_step faults asked old new tx kernel may same there)

-- and one doesn't
pub stays_so : {L : Type 0} (faults asked : L → ℕ → ℕ → ℕ) (b : Bool) (tx : TxNo) (kernel : ℕ) (old new : Wired L) → b ≡ false → new ≡ old → SilentIf faults asked b tx kernel old new
stays_so faults asked b tx kernel old new is same = subst (λ (b : Bool). SilentIf faults asked b tx kernel old new) (sym is) same

-- the timer of a call fires
last_is : {L : Type 0} (faults asked : L → ℕ → ℕ → ℕ) (tx : TxNo) (old new : Wired L) (o : Option Call) (expired : Expired) → Expires faults asked old new tx o expired → gives_up expired ≡ is_last_in o
last_is faults asked tx old new None expired expires = absurd expires
last_is faults asked tx old new (Some call) (Resent sent) expires = sym expires.0
last_is faults asked tx old new (Some call) (GivenUp before now) expires = sym expires.0

asks_own : {L : Type 0} (faults asked : L → ℕ → ℕ → ℕ) (kernel : ℕ) (tx : TxNo) (old new : Wired L) (o : Option Call) (expired : Expired) → is_from kernel o ≡ true → Expires faults asked old new tx o expired → Asks faults asked kernel old.link new.link (sent_in expired)
asks_own faults asked kernel tx old new None expired own expires = absurd expires
asks_own faults asked kernel tx old new (Some call) (Resent sent) own expires = subst (λ (from : ℕ). Asks faults asked from old.link new.link sent) (eqb-true call.from kernel own) expires.1.1
asks_own faults asked kernel tx old new (Some call) (GivenUp before now) own expires = sym expires.4

pub timer_fires : {L : Type 0} (faults asked : L → ℕ → ℕ → ℕ) (kernel : ℕ) (tx : TxNo) (expired : Expired) (old new : Wired L) → may_fire kernel old.machine tx ≡ true → Expires faults asked old new tx (call_of old.machine tx) expired → Fires faults asked kernel tx expired old new
timer_fires {L} faults asked kernel tx expired old new may expires =
    (let parts = and_parts (is_from kernel (call_of old.machine tx)) (may_expire old.machine tx) may in record {
      last = last_is faults asked tx old new (call_of old.machine tx) expired expires;
      step = expire_step faults asked old new tx expired parts.1 expires;
      asks = asks_own faults asked kernel tx old new (call_of old.machine tx) expired parts.0 expires;
    })
