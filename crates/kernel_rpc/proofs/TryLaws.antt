-- A call is given up exactly at the eighth time that its timer fires.
use Rattle.std.proofs.Common.{arith, ◌≡◌, ℕ, ◌+◌, ◌<◌, ◌≤◌, ◌==◌, Bool, true, false, ◌&&◌, cond, List, [], ◌∷◌, Option, Some, None, min, refl, sym, ap, subst, ◌∙◌}
use Rattle.std.specs.List.{AllByRecursion}
use Rattle.std.proofs.lemmas.Bool.Decides.{nat_tests}
use Rattle.std.proofs.lemmas.Bool.{eqb-true}
use Rattle.sprite_ids.specs.declared.TxNo.{TxNo}
use Rattle.sprite_ids.specs.declared.Tries.{Tries}
use Rattle.sprite_ids.specs.declared.Tries.TheVariants.{Eight, Always}
use Rattle.sprite_ids.specs.Lists.{changed}
use Rattle.sprite_ids.proofs.ListLaws.{each_push}
use Rattle.link_plan.specs.declared.Fate.{Fate}
use Rattle.kernel_rpc.specs.declared.call.Part.TheVariants.{Holding, Silent}
use Rattle.kernel_rpc.specs.declared.call.Arrival.{Arrival}
use Rattle.kernel_rpc.specs.declared.call.Arrival.TheVariants.{FirstRequest, FirstReply, AskedAgain, Past}
use Rattle.kernel_rpc.specs.declared.call.Call.{Call}
use Rattle.kernel_rpc.specs.declared.call.PacketCopy.{PacketCopy}
use Rattle.kernel_rpc.specs.Machine.{Machine, answered, arrival, call_of, copy_of, delivered_as, further, gave_up, idle, is_call, is_last, is_last_of, landed, lost_more, new_call, replied, resent, tried}
use Rattle.kernel_rpc.specs.Runs.{Act, Begin, Deliver, Answer, Silence, Expire, AsksAgain, Counts, IsRun, MayAct, after, delivered_by, expired_by, gives_up_by}
use Rattle.kernel_rpc.specs.Histories.{AfterSeven, EachAfterSeven, GivenUpAtEighth, times_expired}
use Rattle.kernel_rpc.proofs.CopyLaws.{each_without}
use Rattle.kernel_rpc.proofs.NumberLaws.{each_changed, each_dropped}
use Rattle.kernel_rpc.proofs.RunLaws.{Ordered, ordered_after, unfinished_replied}
use Rattle.kernel_rpc.proofs.SoundLaws.{found_is, found_sound, found_within, other_copy}

-- a call of eight tries has lost as many as its timer fired, and no more than seven
abbrev pub IsTried : ℕ → Tries → ℕ → Type 0
IsTried count Eight lost = (lost ≡ count) × (count ≤ 7)
IsTried count Always lost = Unit {0}

abbrev Tried : List Act → Call → Type 0
Tried before call = IsTried (times_expired call.tx.0 before) call.tries call.lost

-- no timer fired of a call that isn't begun
abbrev NoneBefore : List Act → ℕ → Type 0
NoneBefore before begun = (tx : ℕ) → begun < tx → times_expired tx before ≡ 0

record Counted (before : List Act) (machine : Machine) : Type 0 where
  numbered : Ordered machine
  calls : AllByRecursion (Tried before) machine.unfinished
  none : NoneBefore before machine.begun

pub each_kept : (P : Call → Type 0) (p : Call → Bool) (f : Call → Call) → ((call : Call) → P call → P (f call)) → (calls : List Call) → AllByRecursion P calls → AllByRecursion P (changed p f calls)
each_kept P p f keep [] h = tt
each_kept P p f keep (call ∷ calls) h = elim (p call) as (λ b. AllByRecursion P (cond b (f call ∷ calls) (call ∷ changed p f calls))) [ true ↦ (keep call h.0, h.1) | false ↦ (h.0, each_kept P p f keep calls h.1) ]

arrived_calls : (before : List Act) (a : Arrival) (copy : PacketCopy) (given : Fate) (machine : Machine) → AllByRecursion (Tried before) machine.unfinished → AllByRecursion (Tried before) (delivered_as a copy given (landed copy machine)).unfinished
arrived_calls before FirstRequest copy given machine h = each_kept (Tried before) (is_call copy.tx) (further copy.to Holding) (λ call k. k) machine.unfinished h
arrived_calls before FirstReply copy given machine h = each_without (Tried before) (is_call copy.tx) machine.unfinished h
arrived_calls before AskedAgain copy given machine h = subst (AllByRecursion (Tried before)) (sym (unfinished_replied (call_of (landed copy machine) copy.tx) given (landed copy machine)).0) h
arrived_calls before Past copy given machine h = h

arrived_begun : (a : Arrival) (copy : PacketCopy) (given : Fate) (machine : Machine) → (delivered_as a copy given (landed copy machine)).begun ≡ machine.begun
arrived_begun FirstRequest copy given machine = refl
arrived_begun FirstReply copy given machine = refl
arrived_begun AskedAgain copy given machine = (unfinished_replied (call_of (landed copy machine) copy.tx) given (landed copy machine)).1
arrived_begun Past copy given machine = refl

delivered_calls : (before : List Act) (o : Option PacketCopy) (given : Fate) (machine : Machine) → AllByRecursion (Tried before) machine.unfinished → AllByRecursion (Tried before) (delivered_by o given machine).unfinished
delivered_calls before None given machine h = h
delivered_calls before (Some copy) given machine h = arrived_calls before (arrival machine copy) copy given machine h

pub delivered_begun : (o : Option PacketCopy) (given : Fate) (machine : Machine) → (delivered_by o given machine).begun ≡ machine.begun
delivered_begun None given machine = refl
delivered_begun (Some copy) given machine = arrived_begun (arrival machine copy) copy given machine

answered_calls : (before : List Act) (o : Option Call) (tx : TxNo) (body : List ℕ) (given : Fate) (machine : Machine) → AllByRecursion (Tried before) machine.unfinished → AllByRecursion (Tried before) (changed (is_call tx) (answered body) (replied o given machine).unfinished)
answered_calls before None tx body given machine h = each_kept (Tried before) (is_call tx) (answered body) (λ call k. k) machine.unfinished h
answered_calls before (Some call) tx body given machine h = each_kept (Tried before) (is_call tx) (answered body) (λ call k. k) machine.unfinished h

-- another call's timer doesn't count
other_call : (before : List Act) (key : TxNo) (sent : List (ℕ × Fate)) (call : Call) → is_call key call ≡ false → Tried before call → Tried (Expire key sent ∷ before) call
other_call before key sent call e h = subst (λ b. IsTried (cond b (1 + times_expired call.tx.0 before) (times_expired call.tx.0 before)) call.tries call.lost) (sym (other_copy key call e)) h

one_more : (count : ℕ) (tries : Tries) (lost : ℕ) → is_last_of tries lost ≡ false → IsTried count tries lost → IsTried (1 + count) tries (lost_more tries lost)
one_more count Eight lost last h = (let same = h.0 in let few : lost < 7 = grind (arith, nat_tests) in let least : min (lost + 1) 7 ≡ lost + 1 = grind arith in (omega arith, omega arith))
one_more count Always lost last h = tt

-- the call whose timer fires
this_call : (before : List Act) (key : TxNo) (sent : List (ℕ × Fate)) (call : Call) → (key.0 == call.tx.0) ≡ true → is_last call ≡ false → Tried before call → Tried (Expire key sent ∷ before) (tried call)
this_call before key sent call e last h = subst (λ b. IsTried (cond b (1 + times_expired call.tx.0 before) (times_expired call.tx.0 before)) call.tries (lost_more call.tries call.lost)) (sym e) (one_more (times_expired call.tx.0 before) call.tries call.lost last h)

same_number : (key : TxNo) (call : Call) → is_call key call ≡ true → (key.0 == call.tx.0) ≡ true
same_number key call e = grind (arith, nat_tests)

none_other : (before : List Act) (begun : ℕ) (key : TxNo) (sent : List (ℕ × Fate)) → key.0 ≤ begun → NoneBefore before begun → NoneBefore (Expire key sent ∷ before) begun
none_other before begun key sent within none tx past =
    let other : (key.0 == tx) ≡ false = grind (arith, nat_tests) in
    ap (λ b. cond b (1 + times_expired tx before) (times_expired tx before)) other ∙ none tx past

expired_last : (before : List Act) (machine : Machine) (key : TxNo) (sent : List (ℕ × Fate)) (call : Call) → call_of machine key ≡ Some call → Counted before machine → (b : Bool) → is_last call ≡ b → AllByRecursion (Tried (Expire key sent ∷ before)) (cond b (gave_up key machine) (resent key (Some call) sent machine)).unfinished × ((cond b (gave_up key machine) (resent key (Some call) sent machine)).begun ≡ machine.begun)
expired_last before machine key sent call found h true last = (each_dropped (Tried before) (Tried (Expire key sent ∷ before)) key 0 machine.begun machine.unfinished h.numbered (λ other e k. other_call before key sent other e k) h.calls, refl)
expired_last before machine key sent call found h false last = (each_changed (Tried before) (Tried (Expire key sent ∷ before)) key tried 0 machine.begun machine.unfinished h.numbered (λ other e k. other_call before key sent other e k) (λ this e k. this_call before key sent this (same_number key this (found_is key this machine.unfinished e)) (same_last this e) k) h.calls, refl)
  where
    same_last : (this : Call) → call_of machine key ≡ Some this → is_last this ≡ false
    same_last this e = subst (λ o. last_by o ≡ false) (sym found ∙ e) last
      where
        last_by : Option Call → Bool
        last_by None = false
        last_by (Some call) = is_last call

within : (machine : Machine) (key : TxNo) (call : Call) → call_of machine key ≡ Some call → Ordered machine → key.0 ≤ machine.begun
within machine key call found h =
    let most = found_within (is_call key) 0 machine.begun call machine.unfinished h found in
    let same = eqb-true call.tx.0 key.0 (found_is key call machine.unfinished found) in
    omega arith

expire_counted : (before : List Act) (machine : Machine) (old new : Counts) (key : TxNo) (sent : List (ℕ × Fate)) (o : Option Call) → call_of machine key ≡ o → AsksAgain old new sent o → Counted before machine → AllByRecursion (Tried (Expire key sent ∷ before)) (expired_by key o sent machine).unfinished × NoneBefore (Expire key sent ∷ before) (expired_by key o sent machine).begun
expire_counted before machine old new key sent None found asks h = absurd asks
expire_counted before machine old new key sent (Some call) found asks h =
    let both = expired_last before machine key sent call found h (is_last call) refl in
    (both.0, subst (NoneBefore (Expire key sent ∷ before)) (sym both.1) (none_other before machine.begun key sent (within machine key call found h.numbered) h.none))

new_tried : (before : List Act) (begun : ℕ) (tries : Tries) → NoneBefore before begun → IsTried (times_expired (begun + 1) before) tries 0
new_tried before begun Eight none = (let zero = none (begun + 1) (omega arith) in (omega arith, omega arith))
new_tried before begun Always none = tt

counted_after : (before : List Act) (machine : Machine) (old : Counts) (act : Act) (new : Counts) → MayAct machine old act new → Counted before machine → Counted (act ∷ before) (after machine act)
counted_after before machine old (Begin from port servers owner body tries about count sent) new may h = record {
  numbered = ordered_after machine (Begin from port servers owner body tries about count sent) h.numbered;
  calls = each_push (Tried before) machine.unfinished (new_call machine from port servers owner body tries about count) h.calls (new_tried before machine.begun tries h.none);
  none = λ tx past. h.none tx (omega arith);
}
counted_after before machine old (Deliver number given) new may h = record {
  numbered = ordered_after machine (Deliver number given) h.numbered;
  calls = delivered_calls before (copy_of machine number) given machine h.calls;
  none = subst (NoneBefore before) (sym (delivered_begun (copy_of machine number) given machine)) h.none;
}
counted_after before machine old (Answer tx body given) new may h = record {
  numbered = ordered_after machine (Answer tx body given) h.numbered;
  calls = answered_calls before (call_of machine tx) tx body given machine h.calls;
  none = subst (NoneBefore before) (sym (unfinished_replied (call_of machine tx) given machine).1) h.none;
}
counted_after before machine old (Silence tx kernel) new may h = record {
  numbered = ordered_after machine (Silence tx kernel) h.numbered;
  calls = each_kept (Tried before) (is_call tx) (further kernel Silent) (λ call k. k) machine.unfinished h.calls;
  none = h.none;
}
counted_after before machine old (Expire tx sent) new may h =
    let both = expire_counted before machine old new tx sent (call_of machine tx) refl may.1 h in
    record { numbered = ordered_after machine (Expire tx sent) h.numbered; calls = both.0; none = both.1 }

pub seven : (count : ℕ) (tries : Tries) (lost : ℕ) → is_last_of tries lost ≡ true → IsTried count tries lost → count ≡ 7
seven count Eight lost last h = (let same = h.0 in let most = h.1 in let least : 7 ≤ lost = grind (arith, nat_tests) in omega arith)
seven count Always lost last h = absurd (cc)

both_parts : (a b : Bool) → (a && b) ≡ true → (a ≡ true) × (b ≡ true)
both_parts true b h = (refl, h)
both_parts false b h = absurd (cc)

after_seven : (before : List Act) (machine : Machine) (key : TxNo) (o : Option Call) → call_of machine key ≡ o → Counted before machine → (tx : ℕ) → gives_up_by tx key o ≡ true → times_expired tx before ≡ 7
after_seven before machine key None found h tx up = absurd (cc)
after_seven before machine key (Some call) found h tx up =
    let parts = both_parts (key.0 == tx) (is_last call) up in
    let here = found_sound (Tried before) (is_call key) call machine.unfinished found h.calls in
    let number : call.tx.0 ≡ tx = eqb-true call.tx.0 key.0 (found_is key call machine.unfinished found) ∙ eqb-true key.0 tx parts.0 in
    subst (λ n. times_expired n before ≡ 7) number (seven (times_expired call.tx.0 before) call.tries call.lost parts.1 here)

step_seven : (before : List Act) (machine : Machine) (act : Act) → Counted before machine → AfterSeven before machine act
step_seven before machine (Begin from port servers owner body tries about count sent) h = λ tx up. absurd (cc)
step_seven before machine (Deliver number given) h = λ tx up. absurd (cc)
step_seven before machine (Answer tx body given) h = λ tx up. absurd (cc)
step_seven before machine (Silence tx kernel) h = λ tx up. absurd (cc)
step_seven before machine (Expire key sent) h = after_seven before machine key (call_of machine key) refl h

each_seven : (before : List Act) (machine : Machine) (counts : Counts) (steps : List (Act × Counts)) → IsRun machine counts steps → Counted before machine → EachAfterSeven before machine steps
each_seven before machine counts [] run h = tt
each_seven before machine counts (first ∷ rest) run h = (step_seven before machine first.0 h, each_seven (first.0 ∷ before) (after machine first.0) first.1 rest run.1 (counted_after before machine counts first.0 first.1 run.0 h))

-- calls are given up at the eighth time
pub given_up_at_eighth : GivenUpAtEighth
given_up_at_eighth counts steps run = each_seven [] idle counts steps run record { numbered = omega arith; calls = tt; none = λ tx past. refl }
