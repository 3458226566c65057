-- Eight packets of a call were lost before it is given up.
use Rattle.std.proofs.Common.{arith, ◌≡◌, ℕ, ◌+◌, ◌≤◌, ◌==◌, Bool, true, false, ◌&&◌, ◌||◌, cond, List, [], ◌∷◌, Option, Some, None, refl, ap, subst}
use Rattle.std.proofs.lemmas.Bool.{eqb-true, and_parts}
use Rattle.sprite_ids.specs.declared.TxNo.{TxNo}
use Rattle.link_plan.specs.declared.Fate.{Fate}
use Rattle.kernel_rpc.specs.declared.call.Call.{Call}
use Rattle.kernel_rpc.specs.Machine.{Machine, call_of, copy_of, idle, is_last, may_expire, owner_of}
use Rattle.kernel_rpc.specs.Runs.{Act, Begin, Deliver, Answer, Silence, Expire, Counts, IsRun, MayAct, after, gives_up, gives_up_by, once_if}
use Rattle.kernel_rpc.specs.Histories.{AfterSeven, EachAfterSeven, EachLost, IsLostWhereDue, is_loss, loses_again, loses_to, lost_since, times_expired}
use Rattle.wire_losses.specs.Losses.{EachBehindEight, GivenUpBehindEight, lost_in, lost_to}
use Rattle.kernel_rpc.proofs.TryLaws.{given_up_at_eighth}
use Rattle.kernel_rpc.proofs.LossLaws.{lost_before_expiry}

-- one or the other is no more than both
either : (x y : Bool) → once_if (x || y) ≤ once_if x + once_if y
either true y = omega arith
either false y = omega arith

-- where a packet to the kernel is lost, one at least is
some_lost : (kernel : ℕ) (sent : List (ℕ × Fate)) → once_if (loses_to kernel sent) ≤ lost_to kernel sent
some_lost kernel [] = omega arith
some_lost kernel (packet ∷ sent) =
    (let here = either ((packet.0 == kernel) && is_loss packet.1) (loses_to kernel sent) in
    let rest = some_lost kernel sent in omega arith)

-- the tries that are over, and one more where a packet was lost since the last sending, are no more than the losses: behind a call that begins
counted_begin : (b was : Bool) (over lost more : ℕ) (now : Bool) → over + once_if was ≤ lost → once_if now ≤ more → over + once_if (cond b now was) ≤ lost + cond b more 0
counted_begin true was over lost more now h k = omega arith
counted_begin false was over lost more now h k = omega arith

-- behind a timer that fires
counted_fire : (b was : Bool) (over lost more : ℕ) (now : Bool) → (b ≡ true → was ≡ true) → over + once_if was ≤ lost → once_if now ≤ more → cond b (1 + over) over + once_if (cond b now was) ≤ lost + cond b more 0
counted_fire true was over lost more now due h k = (let one = ap once_if (due refl) in omega arith)
counted_fire false was over lost more now due h k = omega arith

counted_more : (was x : Bool) (over lost : ℕ) → over + once_if was ≤ lost → over + once_if (was || x) ≤ lost + once_if x
counted_more was x over lost h = (let both = either was x in omega arith)

fires_lost : (lost : ℕ → Bool) (machine : Machine) (key : TxNo) (tx : ℕ) → IsLostWhereDue lost machine → may_expire machine key ≡ true → (key.0 == tx) ≡ true → lost tx ≡ true
fires_lost lost machine key tx due may is = subst (λ (n : ℕ). lost n ≡ true) (eqb-true key.0 tx is) (due key may)

counted : (act : Act) (before : List Act) (lost : ℕ → Bool) (count : ℕ → ℕ) (machine : Machine) (old new : Counts) (tx : ℕ) → MayAct machine old act new → IsLostWhereDue lost machine → times_expired tx before + once_if (lost tx) ≤ count tx → times_expired tx (act ∷ before) + once_if (lost_since tx machine act (lost tx)) ≤ count tx + lost_in tx machine act
counted (Begin from port servers owner body tries about first sent) before lost count machine old new tx may due h = counted_begin (machine.begun + 1 == tx) (lost tx) (times_expired tx before) (count tx) (lost_to owner sent) (loses_to owner sent) h (some_lost owner sent)
counted (Deliver number given) before lost count machine old new tx may due h = counted_more (lost tx) (loses_again tx machine given (copy_of machine number)) (times_expired tx before) (count tx) h
counted (Answer key body given) before lost count machine old new tx may due h = counted_more (lost tx) ((key.0 == tx) && is_loss given) (times_expired tx before) (count tx) h
counted (Silence key at) before lost count machine old new tx may due h = omega (arith, h)
counted (Expire key sent) before lost count machine old new tx may due h =
    let owner = owner_of (call_of machine key) in
    counted_fire (key.0 == tx) (lost tx) (times_expired tx before) (count tx) (lost_to owner sent) (loses_to owner sent) (fires_lost lost machine key tx due may.0) h (some_lost owner sent)

number_given_up : (tx : ℕ) (key : TxNo) (o : Option Call) → gives_up_by tx key o ≡ true → (key.0 == tx) ≡ true
number_given_up tx key None e = absurd (cc)
number_given_up tx key (Some call) e = (and_parts (key.0 == tx) (is_last call) e).0

given_up_lost : (act : Act) (lost : ℕ → Bool) (machine : Machine) (old new : Counts) (tx : ℕ) → MayAct machine old act new → IsLostWhereDue lost machine → gives_up tx machine act ≡ true → lost tx ≡ true
given_up_lost (Begin from port servers owner body tries about first sent) lost machine old new tx may due e = absurd (cc)
given_up_lost (Deliver number given) lost machine old new tx may due e = absurd (cc)
given_up_lost (Answer key body given) lost machine old new tx may due e = absurd (cc)
given_up_lost (Silence key at) lost machine old new tx may due e = absurd (cc)
given_up_lost (Expire key sent) lost machine old new tx may due e = fires_lost lost machine key tx due may.0 (number_given_up tx key (call_of machine key) e)

eight : (seven lost : ℕ) (was : Bool) → seven ≡ 7 → was ≡ true → seven + once_if was ≤ lost → 8 ≤ lost
eight seven lost was is due h = (let one = ap once_if due in omega arith)

first_due : (lost : ℕ → Bool) (machine : Machine) (first : Act × Counts) (rest : List (Act × Counts)) → EachLost lost machine (first ∷ rest) → IsLostWhereDue lost machine
first_due lost machine first rest h = h.0

each_behind : (before : List Act) (lost : ℕ → Bool) (count : ℕ → ℕ) (machine : Machine) (counts : Counts) (steps : List (Act × Counts)) → ((tx : ℕ) → times_expired tx before + once_if (lost tx) ≤ count tx) → IsRun machine counts steps → EachLost lost machine steps → EachAfterSeven before machine steps → EachBehindEight count machine steps
each_behind before lost count machine counts [] told run losts sevens = tt
each_behind before lost count machine counts (first ∷ rest) told run losts sevens = (
  λ tx gives. eight (times_expired tx before) (count tx) (lost tx) (sevens.0 tx gives) (given_up_lost first.0 lost machine counts first.1 tx run.0 losts.0 gives) (told tx),
  each_behind (first.0 ∷ before) (λ tx. lost_since tx machine first.0 (lost tx)) (λ tx. count tx + lost_in tx machine first.0) (after machine first.0) first.1 rest (λ tx. counted first.0 before lost count machine counts first.1 tx run.0 losts.0 (told tx)) run.1 losts.1 sevens.1,
)

pub given_up_behind_eight : GivenUpBehindEight
given_up_behind_eight counts steps run = each_behind [] (λ tx. false) (λ tx. 0) idle counts steps (λ tx. omega arith) run (lost_before_expiry counts steps run) (given_up_at_eighth counts steps run)
