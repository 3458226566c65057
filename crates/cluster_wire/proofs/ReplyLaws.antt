-- An answer goes out.
use Rattle.std.proofs.Common.{◌≡◌, ℕ, ◌==◌, Bool, true, false, cond, List, [], ◌∷◌, ◌++◌, Option, Some, None, option_map, refl, sym, ap, subst, ◌∙◌, append-nil}
use Rattle.std.proofs.lemmas.Bool.{eqb-true}
use Rattle.sprite_ids.specs.declared.TxNo.{TxNo}
use Rattle.sprite_ids.proofs.ListLaws.{some_is}
use Rattle.link_plan.specs.declared.Fate.{Fate}
use Rattle.link_plan.specs.Counts.{IsAsked}
use Rattle.kernel_rpc.specs.declared.call.Call.{Call}
use Rattle.kernel_rpc.specs.Links.{AsksBack}
use Rattle.kernel_rpc.specs.Machine.{answer, call_of, may_answer}
use Rattle.kernel_rpc.specs.Runs.{Answer}
use Rattle.kernel_rpc.specs.Sound.{Wired}
use Rattle.kernel_rpc.proofs.StepLaws.{answer_step}
use Rattle.packet_bodies.specs.declared.ReplyBody.{ReplyBody}
use Rattle.wire_format.specs.declared.Packet.{Packet}
use Rattle.wire_format.specs.Packets.{IsPacket, spelling}
use Rattle.cluster_wire.specs.Replying.{AnswersIf, IsAnswer, answered_by, asker, asker_by, caller_of, goes_back, reply_packet}
use Rattle.cluster_wire.proofs.RanLaws.{DidOne, does_one}

-- who waits for an answer is the caller, and the kernel that may give it is the owner
record IsAsker (kernel to : ℕ) (o : Option Call) : Type 0 where
  call : Call
  there : o ≡ Some call
  owns : call.owner ≡ kernel
  calls : call.from ≡ to

waits_for : (may : Bool) (kernel to : ℕ) (o : Option Call) → asker_by may kernel o ≡ Some to → IsAsker kernel to o
waits_for may kernel to None is = absurd (cc)
waits_for false kernel to (Some call) is = absurd (cc)
waits_for true kernel to (Some call) is = by_owner (call.owner == kernel) refl is
  where
    by_owner : (b : Bool) → (call.owner == kernel) ≡ b → cond b (Some call.from) None ≡ Some to → IsAsker kernel to (Some call)
    by_owner true same is = record { call = call; there = refl; owns = eqb-true call.owner kernel same; calls = some_is call.from to is }
    by_owner false same is = absurd (cc)

-- the link is asked about its packet
pub answer_asks : {L : Type 0} (faults asked : L → ℕ → ℕ → ℕ) (kernel to : ℕ) (tx : TxNo) (given : Fate) (old new : Wired L) → asker kernel old.machine tx ≡ Some to → AsksBack faults asked old.link new.link given (call_of old.machine tx) → IsAsked (faults old.link) (asked old.link) (faults new.link) (asked new.link) kernel to given
answer_asks {L} faults asked kernel to tx given old new is asks =
    (let so = waits_for (may_answer old.machine tx) kernel to (call_of old.machine tx) is in
    let back : AsksBack faults asked old.link new.link given (Some so.call) = subst (λ (o : Option Call). AsksBack faults asked old.link new.link given o) so.there asks in
    subst (λ (from : ℕ). IsAsked (faults old.link) (asked old.link) (faults new.link) (asked new.link) from to given) so.owns
    (subst (λ (to : ℕ). IsAsked (faults old.link) (asked old.link) (faults new.link) (asked new.link) so.call.owner to given) so.calls back))

caller_is : (kernel to : ℕ) (o : Option Call) → IsAsker kernel to o → caller_of o ≡ to
caller_is kernel to o so = ap caller_of so.there ∙ so.calls

-- an answer for which someone waits
pub answer_goes : {L : Type 0} (faults asked : L → ℕ → ℕ → ℕ) (kernel to : ℕ) (tx : TxNo) (body : ReplyBody) (given : Fate) (old new : Wired L) (held told : List (ℕ × Fate)) → asker kernel old.machine tx ≡ Some to → may_answer old.machine tx ≡ true → AsksBack faults asked old.link new.link given (call_of old.machine tx) → new.machine ≡ answer tx (spelling (reply_packet kernel (tx, body) to)) given old.machine → IsPacket (reply_packet kernel (tx, body) to) → told ≡ held ++ (to, given) ∷ [] → AnswersIf faults asked (goes_back kernel old.machine (tx, body)) old new held told
answer_goes {L} faults asked kernel to tx body given old new held told is may asks there known grown =
    subst (λ (o : Option ℕ). AnswersIf faults asked (option_map (reply_packet kernel (tx, body)) o) old new held told) (sym is) (record {
      act = Answer tx (spelling (reply_packet kernel (tx, body) to)) given;
      is = record { given = given; is_packet = known; is = refl };
      step = answer_step faults asked old new tx (spelling (reply_packet kernel (tx, body) to)) given may asks there;
      told_so = grown ∙ ap (λ (to : ℕ). held ++ (to, given) ∷ []) (sym (caller_is kernel to (call_of old.machine tx) (waits_for (may_answer old.machine tx) kernel to (call_of old.machine tx) is)));
    })

-- an answer of a step goes out
pub did_answer : {L : Type 0} (faults asked : L → ℕ → ℕ → ℕ) (kernel : ℕ) (given : TxNo × ReplyBody) (old new : Wired L) (held told : List (ℕ × Fate)) → AnswersIf faults asked (goes_back kernel old.machine given) old new held told → DidOne faults asked (goes_back kernel) IsAnswer answered_by given old new held told
did_answer {L} faults asked kernel given old new held told answers = by_packet (goes_back kernel old.machine given) refl answers
  where
    by_packet : (o : Option Packet) → goes_back kernel old.machine given ≡ o → AnswersIf faults asked o old new held told → DidOne faults asked (goes_back kernel) IsAnswer answered_by given old new held told
    by_packet None is answers = absurd answers
    by_packet (Some packet) is answers = record { more = answered_by old.machine answers.act; grown = answers.told_so; did = does_one faults asked (goes_back kernel) IsAnswer answered_by given packet answers.act old new (answered_by old.machine answers.act) is answers.is answers.step refl }
