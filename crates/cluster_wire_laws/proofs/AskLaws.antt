-- In a run the link is asked about each packet that is sent as its call begins, and about each call's reply as that is answered.
use Rattle.std.proofs.Common.{arith, ◌≡◌, ℕ, ◌+◌, ◌≤◌, Bool, true, false, List, [], ◌∷◌, Option, Some, None, refl, ap}
use Rattle.link_plan.specs.Counts.{Asks, IsAsked, same_pair}
use Rattle.link_plan.specs.declared.Fate.{Fate}
use Rattle.kernel_rpc.specs.declared.Arrival.{Arrival}
use Rattle.kernel_rpc.specs.declared.Arrival.TheVariants.{FirstRequest, FirstReply, AskedAgain, Past}
use Rattle.kernel_rpc.specs.declared.Call.{Call}
use Rattle.kernel_rpc.specs.declared.PacketCopy.{PacketCopy}
use Rattle.kernel_rpc.specs.Histories.{times}
use Rattle.kernel_rpc.specs.Links.{AsksBack}
use Rattle.kernel_rpc.specs.Machine.{Machine, arrival, call_of, copy_of, is_last}
use Rattle.kernel_rpc.specs.Runs.{Act, AsksAgain, AsksOn, AsksUnless, Begin, Deliver, Answer, Silence, Expire, Counts, IsRun, MayAct, MayDeliver, after, once_if}
use Rattle.cluster_wire.specs.Ran.{last_counts}
use Rattle.cluster_wire_laws.specs.Asks.{AskedForEachPacket, RoseBy, all_sent_between, answers_between, is_between, packets_between, sent_between}

-- two kernels that there may be
record Near (a b : ℕ) : Type 0 where
  one : (1 ≤ a) × (a ≤ 16)
  other : (1 ≤ b) × (b ≤ 16)

one_asked : (a b from to : ℕ) (given : Fate) (old new : Counts) → Near a b → IsAsked old.faults old.asked new.faults new.asked from to given → (same : Bool) → same_pair a b from to ≡ same → RoseBy (old.asked a b) (once_if same) (new.asked a b)
one_asked a b from to given old new near asked true is = (let rose = asked.once a b is in omega arith)
one_asked a b from to given old new near asked false is = (let stays = asked.other_asked a b near.one near.other is in omega arith)

all_asked : (a b from : ℕ) (sent : List (ℕ × Fate)) (old new : Counts) → Near a b → Asks (λ (counts : Counts). counts.faults) (λ (counts : Counts). counts.asked) from old new sent → RoseBy (old.asked a b) (packets_between a b from sent) (new.asked a b)
all_asked a b from [] old new near asks = (let same = ap (λ (counts : Counts). counts.asked a b) asks in omega arith)
all_asked a b from (packet ∷ sent) old new near asks =
    (let here = one_asked a b from packet.0 packet.1 old asks.0 near asks.1 (same_pair a b from packet.0) refl in
    let rest = all_asked a b from sent asks.0 new near asks.2 in omega arith)

-- a count that rose didn't fall
stood : (old more new : ℕ) → RoseBy old more new → RoseBy old 0 new
stood old more new rose = omega arith

same_asked : (a b : ℕ) (old new : Counts) → old ≡ new → RoseBy (old.asked a b) 0 (new.asked a b)
same_asked a b old new same = (let is = ap (λ (counts : Counts). counts.asked a b) same in omega arith)

back_between : (a b : ℕ) (given : Fate) (o : Option Call) (old new : Counts) → Near a b → AsksBack (λ (counts : Counts). counts.faults) (λ (counts : Counts). counts.asked) old new given o → RoseBy (old.asked a b) (once_if (is_between a b o)) (new.asked a b)
back_between a b given None old new near asks = absurd asks
back_between a b given (Some call) old new near asks = one_asked a b call.owner call.from given old new near asks (same_pair a b call.owner call.from) refl

back_asked : (a b : ℕ) (given : Fate) (o : Option Call) (old new : Counts) → Near a b → AsksBack (λ (counts : Counts). counts.faults) (λ (counts : Counts). counts.asked) old new given o → RoseBy (old.asked a b) 0 (new.asked a b)
back_asked a b given o old new near asks = stood (old.asked a b) (once_if (is_between a b o)) (new.asked a b) (back_between a b given o old new near asks)

arrival_asked : (a b : ℕ) (given : Fate) (at : Arrival) (o : Option Call) (old new : Counts) → Near a b → AsksOn at old new given o → RoseBy (old.asked a b) 0 (new.asked a b)
arrival_asked a b given FirstRequest o old new near asks = same_asked a b old new asks
arrival_asked a b given FirstReply o old new near asks = same_asked a b old new asks
arrival_asked a b given AskedAgain o old new near asks = back_asked a b given o old new near asks
arrival_asked a b given Past o old new near asks = same_asked a b old new asks

copy_asked : (a b : ℕ) (given : Fate) (machine : Machine) (o : Option PacketCopy) (old new : Counts) → Near a b → MayDeliver machine old new given o → RoseBy (old.asked a b) 0 (new.asked a b)
copy_asked a b given machine None old new near may = absurd may
copy_asked a b given machine (Some copy) old new near may = arrival_asked a b given (arrival machine copy) (call_of machine copy.tx) old new near may

unless_asked : (a b : ℕ) (last : Bool) (sent : List (ℕ × Fate)) (call : Call) (old new : Counts) → Near a b → AsksUnless last old new sent call → RoseBy (old.asked a b) 0 (new.asked a b)
unless_asked a b true sent call old new near asks = same_asked a b old new asks
unless_asked a b false sent call old new near asks = stood (old.asked a b) (packets_between a b call.from sent) (new.asked a b) (all_asked a b call.from sent old new near asks.1)

again_asked : (a b : ℕ) (sent : List (ℕ × Fate)) (o : Option Call) (old new : Counts) → Near a b → AsksAgain old new sent o → RoseBy (old.asked a b) 0 (new.asked a b)
again_asked a b sent None old new near asks = absurd asks
again_asked a b sent (Some call) old new near asks = unless_asked a b (is_last call) sent call old new near asks

-- one act
act_asked : (a b : ℕ) (machine : Machine) (act : Act) (old new : Counts) → Near a b → MayAct machine old act new → RoseBy (old.asked a b) (sent_between a b act + once_if (answers_between a b machine act)) (new.asked a b)
act_asked a b machine (Begin from port servers owner body tries about before sent) old new near may = (let rose = all_asked a b from sent old new near may.6 in omega arith)
act_asked a b machine (Deliver number given) old new near may = copy_asked a b given machine (copy_of machine number) old new near may
act_asked a b machine (Answer tx body given) old new near may = (let rose = back_between a b given (call_of machine tx) old new near may.1 in omega arith)
act_asked a b machine (Silence tx at) old new near may = same_asked a b old new may.1
act_asked a b machine (Expire tx sent) old new near may = again_asked a b sent (call_of machine tx) old new near may.1

run_asked : (a b : ℕ) (steps : List (Act × Counts)) (machine : Machine) (counts : Counts) → Near a b → IsRun machine counts steps → RoseBy (counts.asked a b) (all_sent_between a b steps + times (answers_between a b) machine steps) ((last_counts counts steps).asked a b)
run_asked a b [] machine counts near run = omega arith
run_asked a b (step ∷ steps) machine counts near run =
    (let here = act_asked a b machine step.0 counts step.1 near run.0 in
    let rest = run_asked a b steps (after machine step.0) step.1 near run.1 in omega arith)

pub asked_for_each : AskedForEachPacket
asked_for_each machine counts steps a b one other run = run_asked a b steps machine counts (record { one = one; other = other }) run
