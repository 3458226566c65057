-- Each call of the wire is a step of a run.
use Rattle.std.proofs.Common.{arith, ◌≡◌, ◌≢◌, ℕ, ◌==◌, Bool, true, false, ◌||◌, cond, List, [], ◌∷◌, length, map, Option, Some, None, refl, sym, ap, subst, ◌∙◌}
use Rattle.std.proofs.lemmas.Bool.Decides.{nat_tests}
use Rattle.sprite_ids.specs.declared.TxNo.{TxNo}
use Rattle.link_plan.specs.declared.Fate.{Fate}
use Rattle.link_plan.specs.declared.Fate.TheVariants.{Once}
use Rattle.link_plan.specs.Counts.{Asks}
use Rattle.kernel_rpc.specs.declared.call.Arrival.{Arrival}
use Rattle.kernel_rpc.specs.declared.call.Arrival.TheVariants.{FirstRequest, FirstReply, AskedAgain, Past}
use Rattle.kernel_rpc.specs.declared.call.Call.{Call}
use Rattle.kernel_rpc.specs.declared.call.PacketCopy.{PacketCopy}
use Rattle.kernel_rpc.specs.declared.results.Delivered.{Delivered}
use Rattle.kernel_rpc.specs.declared.results.Delivered.TheVariants.{Request, Reply, Repeated, Old}
use Rattle.kernel_rpc.specs.declared.results.Expired.{Expired}
use Rattle.kernel_rpc.specs.declared.results.Expired.TheVariants.{Resent, GivenUp}
use Rattle.kernel_rpc.specs.Machine.{call_of, copy_of, delivered_as, gave_up, is_last, landed, resent}
use Rattle.kernel_rpc.specs.Links.{AsksBack}
use Rattle.kernel_rpc.specs.Results.{Delivers, Expires}
use Rattle.kernel_rpc.specs.Runs.{AsksAgain, AsksOn, AsksUnless, Counts, MayDeliver, delivered_by, expired_by}
use Rattle.kernel_rpc.specs.Servers.{pairs}
use Rattle.kernel_rpc.specs.Sound.{Wired}
use Rattle.kernel_rpc.specs.Steps.{AnswerIsStep, BeginIsStep, BroadcastIsStep, DeliverIsStep, ExpireIsStep, SilentIsStep, counts_in, fate_of, sent_in}
use Rattle.kernel_rpc.proofs.PartLaws.{eq_same}

-- what a link is asked, its counts are asked
asks_counts : {L : Type 0} (faults asked : L → ℕ → ℕ → ℕ) (from : ℕ) (before after : L) (sent : List (ℕ × Fate)) → Asks faults asked from before after sent → Asks (λ (counts : Counts). counts.faults) (λ (counts : Counts). counts.asked) from (counts_in faults asked before) (counts_in faults asked after) sent
asks_counts faults asked from before after [] h = ap (counts_in faults asked) h
asks_counts faults asked from before after (first ∷ sent) h = (counts_in faults asked h.0, h.1, asks_counts faults asked from h.0 after sent h.2)

back_counts : {L : Type 0} (faults asked : L → ℕ → ℕ → ℕ) (before after : L) (given : Fate) (o : Option Call) → AsksBack faults asked before after given o → AsksBack (λ (counts : Counts). counts.faults) (λ (counts : Counts). counts.asked) (counts_in faults asked before) (counts_in faults asked after) given o
back_counts faults asked before after given None h = h
back_counts faults asked before after given (Some call) h = h

other_kernel : (from to : ℕ) → from ≢ to → (to == from) ≡ false
other_kernel from to apart = grind (arith, nat_tests)

pub begin_step : {L : Type 0} (faults asked : L → ℕ → ℕ → ℕ) → BeginIsStep faults asked
begin_step faults asked old new from port to body tries about given apart free asks there = ((ap (λ b. b || false) (other_kernel from to apart), (refl, tt), ap (λ b. b || false) (eq_same to), free, refl, refl, (counts_in faults asked new.link, asks, refl)), there)

servers_of : (servers : List ℕ) (fates : List Fate) → length fates ≡ length servers → map (λ (packet : ℕ × Fate). packet.0) (pairs servers fates) ≡ servers
servers_of [] fates e = refl
servers_of (server ∷ servers) [] e = absurd (omega arith)
servers_of (server ∷ servers) (first ∷ fates) e = ap (λ rest. server ∷ rest) (servers_of servers fates (omega arith))

pub broadcast_step : {L : Type 0} (faults asked : L → ℕ → ℕ → ℕ) → BroadcastIsStep faults asked
broadcast_step faults asked old new from port servers owner body about fates away apart owns free many asks there = ((away, apart, owns, free, refl, servers_of servers fates many, asks_counts faults asked from old.link new.link (pairs servers fates) asks), there)

same_counts : {L : Type 0} (faults asked : L → ℕ → ℕ → ℕ) (old new : Wired L) → new.link ≡ old.link → counts_in faults asked old.link ≡ counts_in faults asked new.link
same_counts faults asked old new e = ap (counts_in faults asked) (sym e)

arrives : {L : Type 0} (faults asked : L → ℕ → ℕ → ℕ) (old new : Wired L) (copy : PacketCopy) (given : Fate) (is a : Arrival) → is ≡ a → AsksOn a (counts_in faults asked old.link) (counts_in faults asked new.link) given (call_of old.machine copy.tx) → new.machine ≡ delivered_as a copy given (landed copy old.machine) → AsksOn is (counts_in faults asked old.link) (counts_in faults asked new.link) given (call_of old.machine copy.tx) × (new.machine ≡ delivered_as is copy given (landed copy old.machine))
arrives faults asked old new copy given is a e asks there = (subst (λ a. AsksOn a (counts_in faults asked old.link) (counts_in faults asked new.link) given (call_of old.machine copy.tx)) (sym e) asks, there ∙ ap (λ a. delivered_as a copy given (landed copy old.machine)) (sym e))

deliver_by : {M L : Type 0} (reading : List ℕ → Option M) (faults asked : L → ℕ → ℕ → ℕ) (old new : Wired L) (delivered : Delivered M) (o : Option PacketCopy) → Delivers reading faults asked old new o delivered → MayDeliver old.machine (counts_in faults asked old.link) (counts_in faults asked new.link) (fate_of delivered) o × (new.machine ≡ delivered_by o (fate_of delivered) old.machine)
deliver_by reading faults asked old new delivered None h = absurd h
deliver_by reading faults asked old new (Request tx message) (Some copy) h = arrives faults asked old new copy Once _ FirstRequest h.0 (same_counts faults asked old new h.3) h.4
deliver_by reading faults asked old new (Reply tx message) (Some copy) h = arrives faults asked old new copy Once _ FirstReply h.0 (same_counts faults asked old new h.3) h.4
deliver_by reading faults asked old new (Repeated tx given) (Some copy) h = arrives faults asked old new copy given _ AskedAgain h.0 (back_counts faults asked old.link new.link given (call_of old.machine copy.tx) (subst (λ tx. AsksBack faults asked old.link new.link given (call_of old.machine tx)) h.1 h.2)) h.3
deliver_by reading faults asked old new Old (Some copy) h = arrives faults asked old new copy Once _ Past h.0 (same_counts faults asked old new h.1) h.2

pub deliver_step : {M L : Type 0} (reading : List ℕ → Option M) (faults asked : L → ℕ → ℕ → ℕ) → DeliverIsStep reading faults asked
deliver_step reading faults asked old new copy delivered h = deliver_by reading faults asked old new delivered (copy_of old.machine copy) h

pub answer_step : {L : Type 0} (faults asked : L → ℕ → ℕ → ℕ) → AnswerIsStep faults asked
answer_step faults asked old new tx body given may asks there = ((may, back_counts faults asked old.link new.link given (call_of old.machine tx) asks), there)

pub silent_step : {L : Type 0} (faults asked : L → ℕ → ℕ → ℕ) → SilentIsStep faults asked
silent_step faults asked old new tx at may same there = ((may, same_counts faults asked old new same), there)

ends : {L : Type 0} (faults asked : L → ℕ → ℕ → ℕ) (old new : Wired L) (tx : TxNo) (call : Call) (sent : List (ℕ × Fate)) (is b : Bool) → is ≡ b → AsksUnless b (counts_in faults asked old.link) (counts_in faults asked new.link) sent call → new.machine ≡ cond b (gave_up tx old.machine) (resent tx (Some call) sent old.machine) → AsksUnless is (counts_in faults asked old.link) (counts_in faults asked new.link) sent call × (new.machine ≡ cond is (gave_up tx old.machine) (resent tx (Some call) sent old.machine))
ends faults asked old new tx call sent is b e asks there = (subst (λ b. AsksUnless b (counts_in faults asked old.link) (counts_in faults asked new.link) sent call) (sym e) asks, there ∙ ap (λ b. cond b (gave_up tx old.machine) (resent tx (Some call) sent old.machine)) (sym e))

expire_by : {L : Type 0} (faults asked : L → ℕ → ℕ → ℕ) (old new : Wired L) (tx : TxNo) (expired : Expired) (o : Option Call) → Expires faults asked old new tx o expired → AsksAgain (counts_in faults asked old.link) (counts_in faults asked new.link) (sent_in expired) o × (new.machine ≡ expired_by tx o (sent_in expired) old.machine)
expire_by faults asked old new tx expired None h = absurd h
expire_by faults asked old new tx (Resent sent) (Some call) h = ends faults asked old new tx call sent (is_last call) false h.0 (h.1.0, asks_counts faults asked call.from old.link new.link sent h.1.1) h.2
expire_by faults asked old new tx (GivenUp before now) (Some call) h = ends faults asked old new tx call [] (is_last call) true h.0 (same_counts faults asked old new h.4) h.5

pub expire_step : {L : Type 0} (faults asked : L → ℕ → ℕ → ℕ) → ExpireIsStep faults asked
expire_step faults asked old new tx expired may h =
    let by = expire_by faults asked old new tx expired (call_of old.machine tx) h in
    ((may, by.0), by.1)
