-- What the unfinished calls of a machine are behind each call of the wire.
use Rattle.std.proofs.Common.{◌≡◌, ℕ, ◌==◌, Bool, true, false, cond, List, Option, Some, None, option_map, refl, sym, ap, subst, ◌∙◌}
use Rattle.std.proofs.lemmas.Bool.{eqb-true}
use Rattle.sprite_ids.specs.declared.CopyNo.{CopyNo}
use Rattle.sprite_ids.specs.declared.TxNo.{TxNo}
use Rattle.sprite_ids.specs.Lists.{changed, less}
use Rattle.sprite_ids.proofs.ListLaws.{some_is}
use Rattle.link_plan.specs.declared.Fate.{Fate}
use Rattle.kernel_rpc.specs.declared.call.Arrival.{Arrival}
use Rattle.kernel_rpc.specs.declared.call.Arrival.TheVariants.{FirstRequest, FirstReply, AskedAgain, Past}
use Rattle.kernel_rpc.specs.declared.call.Call.{Call}
use Rattle.kernel_rpc.specs.declared.call.Part.TheVariants.{Holding}
use Rattle.kernel_rpc.specs.declared.call.PacketCopy.{PacketCopy}
use Rattle.kernel_rpc.specs.Machine.{Machine, answered, arrival, call_of, copy_of, delivered_as, further, gave_up, holds, is_call, is_last, landed, may_answer, part_of, resent, tried}
use Rattle.kernel_rpc.specs.Runs.{Answer, Deliver, Expire, after, delivered_by, expired_by}
use Rattle.kernel_rpc.proofs.BeginLaws.{may_answer_held}
use Rattle.kernel_rpc.proofs.RunLaws.{unfinished_replied}
use Rattle.packet_bodies.specs.declared.ReplyBody.{ReplyBody}
use Rattle.wire_format.specs.declared.Packet.{Packet}
use Rattle.cluster_wire.specs.Replying.{asker, asker_by, goes_back, reply_packet}
use Rattle.reached_callbacks.proofs.TurnWalk.{is_news}

module _ (machine : Machine) (number : CopyNo) (copy : PacketCopy) (given : Fate) (flies : copy_of machine number ≡ Some copy) where
  delivered_is : (a : Arrival) → arrival machine copy ≡ a → after machine (Deliver number given) ≡ delivered_as a copy given (landed copy machine)
  delivered_is a is = ap (λ (o : Option PacketCopy). delivered_by o given machine) flies ∙ ap (λ (what : Arrival). delivered_as what copy given (landed copy machine)) is

  -- a copy came that brings nothing
  passes_by : (a : Arrival) → is_news a ≡ false → (delivered_as a copy given (landed copy machine)).unfinished ≡ machine.unfinished
  passes_by FirstRequest e = absurd (cc)
  passes_by FirstReply e = absurd (cc)
  passes_by AskedAgain e = (unfinished_replied (call_of (landed copy machine) copy.tx) given (landed copy machine)).0
  passes_by Past e = refl

  pub passed_calls : is_news (arrival machine copy) ≡ false → (after machine (Deliver number given)).unfinished ≡ machine.unfinished
  passed_calls e = ap (λ (m : Machine). m.unfinished) (delivered_is (arrival machine copy) refl) ∙ passes_by (arrival machine copy) e

  -- or the request of a call, or its reply
  pub asked_calls : arrival machine copy ≡ FirstRequest → (after machine (Deliver number given)).unfinished ≡ changed (is_call copy.tx) (further copy.to Holding) machine.unfinished
  asked_calls e = ap (λ (m : Machine). m.unfinished) (delivered_is FirstRequest e)

  pub replied_calls : arrival machine copy ≡ FirstReply → (after machine (Deliver number given)).unfinished ≡ less (is_call copy.tx) machine.unfinished
  replied_calls e = ap (λ (m : Machine). m.unfinished) (delivered_is FirstReply e)

-- a call is tried again, or given up
module _ (machine : Machine) (tx : TxNo) (call : Call) (sent : List (ℕ × Fate)) (there : call_of machine tx ≡ Some call) where
  expired_is : (b : Bool) → is_last call ≡ b → after machine (Expire tx sent) ≡ cond b (gave_up tx machine) (resent tx (Some call) sent machine)
  expired_is b is = ap (λ (o : Option Call). expired_by tx o sent machine) there ∙ ap (λ (last : Bool). cond last (gave_up tx machine) (resent tx (Some call) sent machine)) is

  pub tried_calls : is_last call ≡ false → (after machine (Expire tx sent)).unfinished ≡ changed (is_call tx) tried machine.unfinished
  tried_calls is = ap (λ (m : Machine). m.unfinished) (expired_is false is)

  pub given_up_calls : is_last call ≡ true → (after machine (Expire tx sent)).unfinished ≡ less (is_call tx) machine.unfinished
  given_up_calls is = ap (λ (m : Machine). m.unfinished) (expired_is true is)

-- a call is answered
pub answered_calls : (machine : Machine) (tx : TxNo) (reply : List ℕ) (given : Fate) → (after machine (Answer tx reply given)).unfinished ≡ changed (is_call tx) (answered reply) machine.unfinished
answered_calls machine tx reply given = ap (λ (calls : List Call). changed (is_call tx) (answered reply) calls) (unfinished_replied (call_of machine tx) given machine).0

-- an answer that goes back is to a call that its kernel owns and has
pub record GoesBack (kernel : ℕ) (machine : Machine) (answer : TxNo × ReplyBody) (packet : Packet) : Type 0 where
  pub call : Call
  pub there : call_of machine answer.0 ≡ Some call
  pub held : holds (part_of call.owner call.receivers) ≡ true
  pub own : call.owner ≡ kernel
  pub to : ℕ
  pub is : packet ≡ reply_packet kernel answer to

asked_by : (may : Bool) (kernel : ℕ) (o : Option Call) (to : ℕ) → asker_by may kernel o ≡ Some to → (call : Call) × (o ≡ Some call) × (may ≡ true) × (call.owner ≡ kernel)
asked_by may kernel None to e = absurd (cc)
asked_by false kernel (Some call) to e = absurd (cc)
asked_by true kernel (Some call) to e = by (call.owner == kernel) refl e
  where
    by : (b : Bool) → (call.owner == kernel) ≡ b → cond b (Some call.from) None ≡ Some to → (found : Call) × (Some call ≡ Some found) × (true ≡ true) × (found.owner ≡ kernel)
    by true here same = (call, refl, refl, eqb-true call.owner kernel here)
    by false off same = absurd (cc)

planned_to : (kernel : ℕ) (answer : TxNo × ReplyBody) (packet : Packet) (o : Option ℕ) → option_map (reply_packet kernel answer) o ≡ Some packet → (to : ℕ) × (o ≡ Some to) × (packet ≡ reply_packet kernel answer to)
planned_to kernel answer packet None e = absurd (cc)
planned_to kernel answer packet (Some to) e = (to, refl, sym (some_is (reply_packet kernel answer to) packet e))

pub goes_so : (kernel : ℕ) (machine : Machine) (answer : TxNo × ReplyBody) (packet : Packet) → goes_back kernel machine answer ≡ Some packet → GoesBack kernel machine answer packet
goes_so kernel machine answer packet e =
    let planned = planned_to kernel answer packet (asker kernel machine answer.0) e in
    let asked = asked_by (may_answer machine answer.0) kernel (call_of machine answer.0) planned.0 planned.1 in
    let has = may_answer_held (call_of machine answer.0) asked.2 in
    record {
      call = asked.0;
      there = asked.1;
      held = subst (λ (call : Call). holds (part_of call.owner call.receivers) ≡ true) (some_is has.0 asked.0 (sym has.1 ∙ asked.1)) (ap holds has.2);
      own = asked.3;
      to = planned.0;
      is = planned.2;
    }
