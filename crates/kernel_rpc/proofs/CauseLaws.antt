-- Runs keep what holds of the wire, so calls are given up for cause; and an unfinished call stays until it is answered.
use Rattle.std.proofs.Common.{arith, ◌≡◌, ℕ, Bool, true, false, cond, List, [], ◌∷◌, Option, Some, None, refl, sym, subst, ◌∙◌}
use Rattle.sprite_ids.specs.declared.TxNo.{TxNo}
use Rattle.sprite_ids.specs.declared.Tries.{Tries}
use Rattle.sprite_ids.specs.declared.Tries.TheVariants.{Eight, Always}
use Rattle.link_plan.specs.declared.Fate.{Fate}
use Rattle.kernel_rpc.specs.declared.call.Arrival.{Arrival}
use Rattle.kernel_rpc.specs.declared.call.Arrival.TheVariants.{FirstRequest, FirstReply, AskedAgain, Past}
use Rattle.kernel_rpc.specs.declared.call.Call.{Call}
use Rattle.kernel_rpc.specs.declared.call.PacketCopy.{PacketCopy}
use Rattle.kernel_rpc.specs.Machine.{Machine, arrival, call_of, copy_of, delivered_as, gave_up, idle, is_call, is_due, is_last, is_last_of, landed, may_fire, resent, silent}
use Rattle.kernel_rpc.specs.Links.{AsksBack}
use Rattle.kernel_rpc.specs.Sound.{IsSound, Sound}
use Rattle.kernel_rpc.specs.Runs.{Act, Begin, Deliver, Answer, Silence, Expire, AsksAgain, AsksOn, AsksUnless, Counts, EachForCause, GivenUpForCause, GivesUpForCause, IsForCause, IsRun, MayAct, MayDeliver, after, delivered_by, expired_by}
use Rattle.kernel_rpc.proofs.ArrivalLaws.{asked_again, first_request}
use Rattle.kernel_rpc.proofs.BeginLaws.{before_last, kernels_fresh, may_answer_held, may_be_silent_apart}
use Rattle.kernel_rpc.proofs.LandLaws.{answer_sound, flying_is, give_up_sound, past_sound, silent_sound, take_again_sound, take_reply_sound, take_request_sound}
use Rattle.kernel_rpc.proofs.PartLaws.{eq_turned}
use Rattle.kernel_rpc.proofs.SoundLaws.{begin_sound, due_spent, found_sound, resend_sound}

-- any bytes
abbrev pub Any : List ℕ → Type 0
Any bytes = Unit {0}

abbrev faults_of : Counts → ℕ → ℕ → ℕ
faults_of counts = counts.faults

abbrev asked_of : Counts → ℕ → ℕ → ℕ
asked_of counts = counts.asked

abbrev pub Holds : Machine → Counts → Type 0
Holds machine counts = Sound Any counts.faults machine

same_counts : (machine : Machine) (old new : Counts) → old ≡ new → Holds machine old → Holds machine new
same_counts machine old new same h = subst (Holds machine) same h

arrived_holds : (a : Arrival) (machine : Machine) (old new : Counts) (copy : PacketCopy) (given : Fate) → copy_of machine copy.number ≡ Some copy → arrival machine copy ≡ a → AsksOn a old new given (call_of machine copy.tx) → Holds machine old → Holds (delivered_as a copy given (landed copy machine)) new
arrived_holds FirstRequest machine old new copy given flying is asks h =
    let first = first_request copy (call_of machine copy.tx) is in
    same_counts (delivered_as FirstRequest copy given (landed copy machine)) old new asks (take_request_sound Any old.faults machine copy first.0 flying first.1 first.2 first.3 given h)
arrived_holds FirstReply machine old new copy given flying is asks h =
    same_counts (delivered_as FirstReply copy given (landed copy machine)) old new asks (take_reply_sound Any old.faults machine copy flying given h)
arrived_holds AskedAgain machine old new copy given flying is asks h =
    let again = asked_again copy (call_of machine copy.tx) is in
    take_again_sound Any faults_of asked_of old new machine copy again.0 given flying again.1 again.2 (subst (AsksBack faults_of asked_of old new given) again.1 asks) h
arrived_holds Past machine old new copy given flying is asks h =
    same_counts (landed copy machine) old new asks (past_sound Any old.faults machine copy flying is h)

pub delivered_holds : (o : Option PacketCopy) (machine : Machine) (old new : Counts) (given : Fate) → ((copy : PacketCopy) → o ≡ Some copy → copy_of machine copy.number ≡ Some copy) → MayDeliver machine old new given o → Holds machine old → Holds (delivered_by o given machine) new
delivered_holds None machine old new given flying asks h = absurd asks
delivered_holds (Some copy) machine old new given flying asks h = arrived_holds (arrival machine copy) machine old new copy given (flying copy refl) refl asks h

expired_holds : (machine : Machine) (old new : Counts) (tx : TxNo) (call : Call) (sent : List (ℕ × Fate)) → call_of machine tx ≡ Some call → is_due machine.copies call ≡ true → (b : Bool) → AsksUnless b old new sent call → Holds machine old → Holds (cond b (gave_up tx machine) (resent tx (Some call) sent machine)) new
expired_holds machine old new tx call sent found due true asks h = same_counts (gave_up tx machine) old new asks (give_up_sound Any old.faults machine tx h)
expired_holds machine old new tx call sent found due false asks h = resend_sound Any faults_of asked_of old new machine tx call sent found due asks h

expire_holds : (o : Option Call) (machine : Machine) (old new : Counts) (tx : TxNo) (sent : List (ℕ × Fate)) → call_of machine tx ≡ o → may_fire machine.copies o ≡ true → AsksAgain old new sent o → Holds machine old → Holds (expired_by tx o sent machine) new
expire_holds None machine old new tx sent found due asks h = absurd asks
expire_holds (Some call) machine old new tx sent found due asks h = expired_holds machine old new tx call sent found due (is_last call) asks h

-- each call of the wire keeps what holds
pub after_holds : (machine : Machine) (old : Counts) (act : Act) (new : Counts) → MayAct machine old act new → Holds machine old → Holds (after machine act) new
after_holds machine old (Begin from port servers owner body tries about before sent) new may h = begin_sound Any faults_of asked_of old new machine from port servers owner body tries about before sent tt may.4 may.2 (may.5 ∙ sym (kernels_fresh servers)) may.6 h
after_holds machine old (Deliver number given) new may h = delivered_holds (copy_of machine number) machine old new given (λ copy found. flying_is number copy machine.copies found) may h
after_holds machine old (Answer tx body given) new may h =
    let held = may_answer_held (call_of machine tx) may.0 in
    answer_sound Any faults_of asked_of old new machine tx held.0 body given tt held.1 held.2 (subst (AsksBack faults_of asked_of old new given) held.1 may.1) h
after_holds machine old (Silence tx kernel) new may h =
    let apart = may_be_silent_apart kernel (call_of machine tx) may.0 in
    same_counts (silent tx kernel machine) old new may.1 (silent_sound Any old.faults machine tx kernel apart.0 apart.1 (eq_turned apart.0.owner kernel apart.2) h)
after_holds machine old (Expire tx sent) new may h = expire_holds (call_of machine tx) machine old new tx sent refl may.0 may.1 h

last_eight : (tries : Tries) (lost : ℕ) → is_last_of tries lost ≡ true → tries ≡ Eight
last_eight Eight lost h = refl
last_eight Always lost h = absurd (cc)

cause_of : (o : Option Call) (machine : Machine) (counts : Counts) (tx : TxNo) → call_of machine tx ≡ o → may_fire machine.copies o ≡ true → Holds machine counts → IsForCause counts.faults o
cause_of None machine counts tx found due h = tt
cause_of (Some call) machine counts tx found due h = λ last. (last_eight call.tries call.lost last, (let seven = before_last call last in let spent = due_spent Any counts.faults machine.copies call due (found_sound (IsSound Any counts.faults machine.copies) (is_call tx) call machine.unfinished found h.calls) in omega arith))

step_cause : (machine : Machine) (old : Counts) (act : Act) (new : Counts) → MayAct machine old act new → Holds machine old → GivesUpForCause machine old act
step_cause machine old (Begin from port servers owner body tries about before sent) new may h = tt
step_cause machine old (Deliver number given) new may h = tt
step_cause machine old (Answer tx body given) new may h = tt
step_cause machine old (Silence tx kernel) new may h = tt
step_cause machine old (Expire tx sent) new may h = cause_of (call_of machine tx) machine old tx refl may.0 h

each_for_cause : (machine : Machine) (counts : Counts) (steps : List (Act × Counts)) → IsRun machine counts steps → Holds machine counts → EachForCause machine counts steps
each_for_cause machine counts [] run h = tt
each_for_cause machine counts (first ∷ rest) run h = (step_cause machine counts first.0 first.1 run.0 h, each_for_cause (after machine first.0) first.1 rest run.1 (after_holds machine counts first.0 first.1 run.0 h))

-- calls are given up for cause
pub given_up_for_cause : GivenUpForCause
given_up_for_cause counts steps run = each_for_cause idle counts steps run record { numbered = omega arith; flying = tt; calls = tt }
