-- A fact of the wire's calls and packets that each call of the wire keeps is true in each reached cluster.
use Rattle.std.proofs.Common.{◌≡◌, ℕ, Bool, true, false, ◌&&◌, List, [], ◌∷◌, Option, Some, None, refl, sym, subst}
use Rattle.std.proofs.lemmas.Bool.{and_parts}
use Rattle.std.specs.List.{list_all}
use Rattle.sprite_ids.specs.declared.CopyNo.{CopyNo}
use Rattle.sprite_ids.specs.declared.TxNo.{TxNo}
use Rattle.link_plan.specs.declared.Fate.{Fate}
use Rattle.kernel_rpc.specs.declared.Expired.{Expired}
use Rattle.kernel_rpc.specs.declared.Expired.TheVariants as expired
use Rattle.kernel_rpc.specs.declared.PacketCopy.{PacketCopy}
use Rattle.kernel_rpc.specs.Histories.{reached}
use Rattle.kernel_rpc.specs.Machine.{Machine, may_be_silent}
use Rattle.kernel_rpc.specs.Runs.{Act, Answer, Counts, Deliver, Expire, IsRun, MayAct, Silence, after}
use Rattle.kernel_rpc.specs.Sound.{Wired}
use Rattle.kernel_rpc.specs.Steps.{IsStep, counts_in, sent_in}
use Rattle.kernel_steps.specs.declared.Input.{Input}
use Rattle.kernel_steps.specs.declared.Input.TheVariants as inputs
use Rattle.kernel_steps.specs.declared.Out.{Out}
use Rattle.kernel_steps.specs.declared.Sending.{Sending}
use Rattle.kernel_steps.specs.Outs.{started}
use Rattle.packet_bodies.specs.declared.ReplyBody.{ReplyBody}
use Rattle.unix_calls.specs.declared.Description.{Description}
use Rattle.unix_calls.specs.declared.Event.TheVariants as events
use Rattle.wire_format.specs.declared.Packet.{Packet}
use Rattle.wire_format.specs.Packets.{spelling}
use Rattle.cluster_wire.specs.Arriving.{SilentIf, asks_prefix, copy_to, given_in}
use Rattle.cluster_wire.specs.Calling.{IsBegin}
use Rattle.cluster_wire.specs.Firing.{may_fire}
use Rattle.cluster_wire.specs.Goings.{Going, goes}
use Rattle.cluster_wire.specs.Ran.{EachDone}
use Rattle.cluster_wire.specs.Replying.{IsAnswer, goes_back}
use Rattle.cluster_wire.specs.declared.Arrived.{Arrived}
use Rattle.cluster_wire.specs.declared.Arrived.TheVariants as arrived
use Rattle.cluster_wire.specs.declared.Said.{Said}
use Rattle.cluster_kernels.specs.declared.KernelState.{KernelState}
use Rattle.cluster_kernels.specs.declared.State.{State}
use Rattle.cluster_kernels.specs.States.{count_at, kernel_at, noted_step, put_image, stepped_by}
use Rattle.cluster_kernels.specs.Kernels.{kernel_step}
use Rattle.cluster_steps.specs.Receivers.{fits, all_fit}
use Rattle.cluster_steps.specs.Steps.{GoesOut, TakesSo}
use Rattle.cluster_choices.specs.declared.Choice.{Choice}
use Rattle.cluster_choices.specs.declared.Choice.TheVariants as choices
use Rattle.cluster_choices.specs.Acts.{Comes, Expires, FiredAs, Given, Happens, delivery}
use Rattle.cluster_bursts.specs.declared.Burst.{Burst}
use Rattle.cluster_bursts.specs.declared.BurstOutcome.{BurstOutcome}
use Rattle.cluster_bursts.specs.declared.BurstOutcome.TheVariants as outcome
use Rattle.cluster_bursts.specs.Bursts.{EndsAs, GoesOn, came_to, recorded}
use Rattle.reached_domains.proofs.CallLaws.{IsOther}

-- what a fact bears: requests that a kernel of the cluster sends where they belong, answers, and what else happens at the wire
pub record Bears (c : Description) (IsThere : ℕ → Type 0) (P : Machine → Type 0) : Type 0 where
  pub begins : (kernel : ℕ) (sending : Sending) (going : Going) (machine : Machine) (old new : Counts) (act : Act) → IsThere kernel → fits c sending ≡ true → goes c kernel sending ≡ Some going → IsBegin kernel machine going act → MayAct machine old act new
      → P machine → P (after machine act)
  pub answers : (tx : TxNo) (reply : List ℕ) (given : Fate) (machine : Machine) → P machine → P (after machine (Answer tx reply given))
  pub others : (act : Act) (machine : Machine) (old new : Counts) → IsOther act → MayAct machine old act new → P machine → P (after machine act)

module _ (c : Description) (IsThere : ℕ → Type 0) (P : Machine → Type 0) (bears : Bears c IsThere P) where
  begin_all : (kernel : ℕ) (sendings : List Sending) (machine : Machine) (counts : Counts) (steps : List (Act × Counts)) → IsThere kernel → all_fit c sendings ≡ true → EachDone (λ (machine : Machine) (sending : Sending). goes c kernel sending) (IsBegin kernel) sendings machine steps
      → IsRun machine counts steps → P machine → P (reached machine steps)
  begin_all kernel [] machine counts steps there fit each run h = subst (λ (all : List (Act × Counts)). P (reached machine all)) (sym each) h
  begin_all kernel (sending ∷ sendings) machine counts [] there fit each run h = absurd each
  begin_all kernel (sending ∷ sendings) machine counts (step ∷ steps) there fit each run h =
      let parts = and_parts (fits c sending) (list_all (fits c) sendings) fit in
      begin_all kernel sendings (after machine step.0) step.1 steps there parts.1 each.1 run.1
      (bears.begins kernel sending each.0.way machine counts step.1 step.0 there parts.0 each.0.planned each.0.done run.0 h)

  answer_all : (kernel : ℕ) (answers : List (TxNo × ReplyBody)) (machine : Machine) (steps : List (Act × Counts)) → EachDone (goes_back kernel) IsAnswer answers machine steps → P machine → P (reached machine steps)
  answer_all kernel [] machine steps each h = subst (λ (all : List (Act × Counts)). P (reached machine all)) (sym each) h
  answer_all kernel (answer ∷ answers) machine [] each h = absurd each
  answer_all kernel (answer ∷ answers) machine (step ∷ steps) each h =
      let packet : Packet = each.0.way in
      answer_all kernel answers (after machine step.0) steps each.1
      (subst (λ (act : Act). P (after machine act)) (sym each.0.done.is) (bears.answers packet.tx (spelling packet) each.0.done.given machine h))

  module _ {L : Type 0} (faults asked : L → ℕ → ℕ → ℕ) where
    step_keeps : (old new : Wired L) (act : Act) → IsOther act → IsStep faults asked old act new → P old.machine → P new.machine
    step_keeps old new act other step h = subst P (sym step.1) (bears.others act old.machine (counts_in faults asked old.link) (counts_in faults asked new.link) other step.0 h)

    same_wire : (old new : Wired L) → new ≡ old → P old.machine → P new.machine
    same_wire old new same h = subst (λ (wire : Wired L). P wire.machine) (sym same) h

    -- what a step says goes out
    goes_out : (kernel : ℕ) (out : Out) (old new : Wired L) (said : Said) → IsThere kernel → all_fit c out.sends ≡ true → GoesOut faults asked c kernel out old new said → P old.machine → P new.machine
    goes_out kernel out old new said there fit g h =
        subst P (sym g.answers.ran.reaches)
        (answer_all kernel out.answers g.between.machine g.answers.steps g.answers.each
        (subst P (sym g.requests.ran.reaches) (begin_all kernel out.sends old.machine (counts_in faults asked old.link) g.requests.steps there fit g.requests.each g.requests.ran.run h)))

    silent_out : (kernel : ℕ) (next : TxNo) (old new : Wired L) (said : Said) → GoesOut faults asked c kernel (started next) old new said → P old.machine → P new.machine
    silent_out kernel next old new said g h =
        subst P (sym g.answers.ran.reaches)
        (answer_all kernel [] g.between.machine g.answers.steps g.answers.each
        (subst P (sym g.requests.ran.reaches) (subst (λ (all : List (Act × Counts)). P (reached old.machine all)) (sym g.requests.each) h)))

    took_by : (o : Option KernelState) (kernel : ℕ) (input : Input) (said : Said) (old new : Wired L) (s : State) → kernel_at kernel s ≡ o → ((state : KernelState) → kernel_at kernel s ≡ Some state → IsThere kernel) → all_fit c (stepped_by kernel o input said.next s).1.sends ≡ true
        → GoesOut faults asked c kernel (stepped_by kernel o input said.next s).1 old new said → P old.machine → P new.machine
    took_by None kernel input said old new s e there fit g h = silent_out kernel said.next old new said g h
    took_by (Some found) kernel input said old new s e there fit g h =
        goes_out kernel (kernel_step found input said.next (count_at s.steps kernel)).1 old new said (there found e) fit g h

    -- the kernel of that number is there wherever it is one of the cluster's
    abbrev KernelIsThere : ℕ → State → Type 0
    KernelIsThere kernel s = (state : KernelState) → kernel_at kernel s ≡ Some state → IsThere kernel

    took_so : (kernel : ℕ) (input : Input) (said : Said) (old new : Wired L) (s t : State) → KernelIsThere kernel s → TakesSo faults asked c kernel input said old new s t → P old.machine → P new.machine
    took_so kernel input said old new s t there so h = took_by (kernel_at kernel s) kernel input said old new s refl there so.fit so.goes_out h

    silenced : (b : Bool) (tx : TxNo) (kernel : ℕ) (old new : Wired L) → SilentIf faults asked b tx kernel old new → P old.machine → P new.machine
    silenced true tx kernel old new step h = step_keeps old new (Silence tx kernel) tt step h
    silenced false tx kernel old new same h = same_wire old new same h

    given : (what : Arrived) (kernel : ℕ) (tx : TxNo) (old new : Wired L) (s t : State) → KernelIsThere kernel s → Given faults asked c kernel tx what old new s t → P old.machine → P new.machine
    given (arrived.Message input) kernel tx old new s t there g h =
        silenced (asks_prefix input && may_be_silent g.between.machine tx kernel) tx kernel g.between new g.silent (took_so kernel input g.said old g.between s t there g.takes h)
    given (arrived.Again from to drawn) kernel tx old new s t there g h = same_wire old new g.0 h
    given arrived.Old kernel tx old new s t there g h = same_wire old new g.0 h

    came : (o : Option PacketCopy) (kernel : ℕ) (number : CopyNo) (old new : Wired L) (s t : State) → KernelIsThere kernel s → Comes faults asked c kernel number o old new s t → P old.machine → P new.machine
    came None kernel number old new s t there g h = same_wire old new g.0 h
    came (Some copy) kernel number old new s t there g h =
        given g.came kernel copy.tx g.between new (noted_step kernel (delivery copy) s) t there g.given (step_keeps old g.between (Deliver number (given_in g.came)) tt g.arrives.step h)

    fired : (what : Expired) (kernel : ℕ) (tx : TxNo) (old new : Wired L) (s t : State) → KernelIsThere kernel s → FiredAs faults asked c kernel tx what old new s t → P old.machine → P new.machine
    fired (expired.Resent fates) kernel tx old new s t there g h = same_wire old new g.0 h
    fired (expired.GivenUp before now) kernel tx old new s t there g h = took_so kernel (inputs.GaveUp tx) g.said old new (noted_step kernel (events.Expire tx true) s) t there g.takes h

    expires : (b : Bool) (kernel : ℕ) (tx : TxNo) (old new : Wired L) (s t : State) → KernelIsThere kernel s → Expires faults asked c kernel tx b old new s t → P old.machine → P new.machine
    expires false kernel tx old new s t there g h = same_wire old new g.0 h
    expires true kernel tx old new s t there g h = fired g.what kernel tx g.between new s t there g.then_so (step_keeps old g.between (Expire tx (sent_in g.what)) tt g.fires.step h)

    pub happened : (choice : Choice) (kernel : ℕ) (old new : Wired L) (s t : State) → KernelIsThere kernel s → Happens faults asked c kernel choice old new s t → P old.machine → P new.machine
    happened (choices.Deliver number) kernel old new s t there g h = came (copy_to kernel old.machine number) kernel number old new s t there g h
    happened (choices.Expire tx) kernel old new s t there g h = expires (may_fire kernel old.machine tx) kernel tx old new s t there g h
    happened (choices.WriteBack file block) kernel old new s t there g h = took_so kernel (inputs.Due file block) g.said old new s t there g.takes h

    -- bursts

    went_on : (o : Option Input) (what : BurstOutcome) (kernel : ℕ) (old new : Wired L) (s t : State) → KernelIsThere kernel s → GoesOn faults asked c kernel o what old new s t → P old.machine → P new.machine
    went_on (Some input) (outcome.Took said) kernel old new s t there g h = took_so kernel input said old new s t there g h
    went_on (Some input) outcome.Done kernel old new s t there g h = absurd g
    went_on (Some input) outcome.Stale kernel old new s t there g h = absurd g
    went_on None outcome.Done kernel old new s t there g h = same_wire old new g.0 h
    went_on None (outcome.Took said) kernel old new s t there g h = absurd g
    went_on None outcome.Stale kernel old new s t there g h = absurd g

    counted : (what : BurstOutcome) (kernel : ℕ) (b : Burst) (old new : Wired L) (s t : State) → KernelIsThere kernel (put_image kernel b.pid b.to (recorded kernel b s)) → GoesOn faults asked c kernel (came_to kernel b b.end (recorded kernel b s)) what old new (put_image kernel b.pid b.to (recorded kernel b s)) t
        → P old.machine → P new.machine
    counted what kernel b old new s t there g h = went_on (came_to kernel b b.end (recorded kernel b s)) what kernel old new (put_image kernel b.pid b.to (recorded kernel b s)) t there g h

    pub ended : (what : BurstOutcome) (kernel : ℕ) (b : Burst) (old new : Wired L) (s t : State) → KernelIsThere kernel (put_image kernel b.pid b.to (recorded kernel b s)) → EndsAs faults asked c kernel b what old new s t → P old.machine → P new.machine
    ended outcome.Stale kernel b old new s t there g h = same_wire old new g.1 h
    ended outcome.Done kernel b old new s t there g h = counted outcome.Done kernel b old new s t there g.1 h
    ended (outcome.Took said) kernel b old new s t there g h = counted (outcome.Took said) kernel b old new s t there g.1 h
