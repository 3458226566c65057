-- A turn of a kernel, over a wire that goes on: what the kernels wait for and keep, and what the wire's calls ask.
use Rattle.std.proofs.Common.{arith, ◌≡◌, ℕ, ◌+◌, ◌-◌, ◌≤◌, Bool, true, false, ◌&&◌, List, slice_set, Option, Some, None, refl, sym, ap, ◌∙◌, subst}
use Rattle.std.proofs.lemmas.Bool.{eqb-true}
use Rattle.std.specs.List.{AllByRecursion}
use Rattle.sprite_ids.specs.declared.CopyNo.{CopyNo}
use Rattle.sprite_ids.specs.declared.TxNo.{TxNo}
use Rattle.sprite_ids.proofs.ListLaws.{some_is}
use Rattle.link_plan.specs.declared.Fate.{Fate}
use Rattle.process_machine.specs.Machine as processes
use Rattle.kernel_rpc.specs.declared.call.Arrival.{Arrival}
use Rattle.kernel_rpc.specs.declared.call.Arrival.TheVariants.{FirstRequest, FirstReply, AskedAgain, Past}
use Rattle.kernel_rpc.specs.declared.call.Call.{Call}
use Rattle.kernel_rpc.specs.declared.Expired.{Expired}
use Rattle.kernel_rpc.specs.declared.Expired.TheVariants as expired
use Rattle.kernel_rpc.specs.declared.PacketCopy.{PacketCopy}
use Rattle.kernel_rpc.specs.Bodies.{IsMessage, body_of}
use Rattle.kernel_rpc.specs.Histories.{reached}
use Rattle.kernel_rpc.specs.Machine.{Machine, arrival, call_of, is_call, may_be_silent}
use Rattle.kernel_rpc.specs.Runs.{Act, Deliver, Expire, Silence, after}
use Rattle.kernel_rpc.specs.Sound.{Wired}
use Rattle.kernel_rpc.specs.Steps.{IsStep, sent_in}
use Rattle.kernel_rpc.proofs.ArrivalLaws.{first_request}
use Rattle.kernel_rpc.proofs.RunLaws.{Ordered, ordered_after}
use Rattle.kernel_rpc.proofs.SoundLaws.{found_is, found_within}
use Rattle.kernel_steps.specs.declared.Input.{Input}
use Rattle.kernel_steps.specs.declared.Input.TheVariants as inputs
use Rattle.kernel_steps.specs.declared.Out.{Out}
use Rattle.kernel_steps.specs.Outs.{started}
use Rattle.packet_bodies.specs.declared.Body.{Body}
use Rattle.packet_bodies.specs.declared.Body.TheVariants as bodies
use Rattle.unix_calls.specs.declared.Description.{Description}
use Rattle.unix_calls.specs.declared.Event.TheVariants as events
use Rattle.wire_format.specs.declared.Packet.{Packet}
use Rattle.wire_format.specs.Packets.{reading}
use Rattle.cluster_wire.specs.Arriving.{Brings, SilentIf, asks_prefix, copy_to, given_in, reply_in}
use Rattle.cluster_wire.specs.Arriving as arriving
use Rattle.cluster_wire.specs.Firing.{may_fire}
use Rattle.cluster_wire.specs.Goings.{next_of}
use Rattle.cluster_wire.specs.Ran.{EachDone}
use Rattle.cluster_wire.specs.Replying.{IsAnswer, goes_back}
use Rattle.cluster_wire.specs.declared.Arrived.{Arrived}
use Rattle.cluster_wire.specs.declared.Arrived.TheVariants as arrived
use Rattle.cluster_wire.specs.declared.Said.{Said}
use Rattle.cluster_kernels.specs.declared.KernelState.{KernelState}
use Rattle.cluster_kernels.specs.declared.State.{State}
use Rattle.cluster_kernels.specs.Kernels.{image_put, kernel_step}
use Rattle.cluster_kernels.specs.States.{count_at, image_put_at, kernel_at, noted_step, put_image, stepped, stepped_by}
use Rattle.cluster_steps.specs.Steps.{GoesOut, TakesSo}
use Rattle.cluster_choices.specs.declared.Choice.{Choice}
use Rattle.cluster_choices.specs.declared.Choice.TheVariants as choices
use Rattle.cluster_choices.specs.Acts.{Comes, Expires, FiredAs, Given, Happens, delivery}
use Rattle.cluster_bursts.specs.declared.Burst.{Burst}
use Rattle.cluster_bursts.specs.declared.BurstOutcome.{BurstOutcome}
use Rattle.cluster_bursts.specs.declared.BurstOutcome.TheVariants as outcome
use Rattle.cluster_bursts.specs.declared.Job.{Job}
use Rattle.cluster_bursts.specs.Bursts.{EndsAs, GoesOn, begun_by, came_to, recorded}
use Rattle.sprite_cluster.specs.Everywhere.{OfAll}
use Rattle.sprite_cluster.proofs.KernelLaws.{IsOwn, all_at, all_weaken, one_at, own_came}
use Rattle.broadcast_laws.specs.Broadcasts.{AsksNow, Parts}
use Rattle.wire_bodies.specs.Bodies.{KeepsBodies, body_at}
use Rattle.wire_bodies.proofs.BodyLaws.{after_stays, ordered_run, run_stays, stays_through}
use Rattle.reached_domains.specs.Domains.{request_in, request_read}
use Rattle.reached_domains.proofs.CallLaws.{AllFine, AsksAt, IsOther, MayBeTold, answers_fine, asks_on, begins_fine, fine_other, sends_ask}
use Rattle.reached_domains.proofs.KernelLaws.{ComesAs, Fits, FitsBehind, StepsSo, behind_fits, fits_image, fits_on, kernel_steps}

-- ---- a cluster

pub record Stands (c : Description) (machine : Machine) (s : State) : Type 0 where
  pub ordered : Ordered machine
  pub calls : AllFine c machine
  pub kernels : OfAll (Fits c machine) 1 s.kernels

-- the wire's calls on the way from one machine to another
record WentOn (c : Description) (old new : Machine) : Type 0 where
  ordered : Ordered new
  calls : AllFine c new
  keeps : KeepsBodies old new

-- what a step says goes out
record WentOut (c : Description) (old new : Machine) (out : Out) : Type 0 where
  went : WentOn c old new
  asks : (tx : TxNo) (prefix : Parts) → AsksNow (old.begun + 1) out.sends tx prefix → AsksAt c new tx prefix

-- a message by what it brings
abbrev message_or : Input → Arrived → Input
message_or other (arrived.Message input) = input
message_or other (arrived.Again from to drawn) = other
message_or other arrived.Old = other

pub message_is : (one other : Input) → arrived.Message one ≡ arrived.Message other → one ≡ other
message_is one other e = ap (message_or one) e

pub not_again : (input : Input) (from to : ℕ) (drawn : Fate) → arrived.Message input ≡ arrived.Again from to drawn → ⊥
not_again input from to drawn e = absurd (cc)

module _ (c : Description) where
  stands_on : (old new : Machine) (s : State) → WentOn c old new → Stands c old s → Stands c new s
  stands_on old new s w h = record { ordered = w.ordered; calls = w.calls; kernels = all_weaken (Fits c old) (Fits c new) (λ kernel state k. fits_on c old new kernel state w.keeps k) s.kernels 1 h.kernels }

  other_act : (machine : Machine) (act : Act) → IsOther act → Ordered machine → AllFine c machine → WentOn c machine (after machine act)
  other_act machine act other ordered fine = record { ordered = ordered_after machine act ordered; calls = fine_other c act machine other fine; keeps = after_stays machine act ordered }

  step_stands : {L : Type 0} (faults asked : L → ℕ → ℕ → ℕ) (old new : Wired L) (act : Act) (s : State) → IsOther act → IsStep faults asked old act new → Stands c old.machine s → Stands c new.machine s
  step_stands faults asked old new act s other step h =
      subst (λ (machine : Machine). Stands c machine s) (sym step.1) (stands_on old.machine (after old.machine act) s (other_act old.machine act other h.ordered h.calls) h)

  -- what a step says goes out
  goes_out : {L : Type 0} (faults asked : L → ℕ → ℕ → ℕ) (kernel : ℕ) (out : Out) (old new : Wired L) (said : Said) → GoesOut faults asked c kernel out old new said → Ordered old.machine → AllFine c old.machine → AllByRecursion (MayBeTold c kernel old.machine) out.answers → WentOut c old.machine new.machine out
  goes_out faults asked kernel out old new said g ordered fine may =
      let one : Machine = reached old.machine g.requests.steps in
      let two : Machine = reached one g.answers.steps in
      let first : KeepsBodies old.machine one = run_stays g.requests.steps old.machine ordered in
      let between : Ordered one = ordered_run g.requests.steps old.machine ordered in
      let begun : AllFine c one = begins_fine c kernel out.sends old.machine g.requests.steps g.requests.each fine in
      let there : g.between.machine ≡ one = g.requests.ran.reaches in
      let each = subst (λ (machine : Machine). EachDone (goes_back kernel) IsAnswer out.answers machine g.answers.steps) there g.answers.each in
      let second : KeepsBodies one two = run_stays g.answers.steps one between in
      let ends : new.machine ≡ two = g.answers.ran.reaches ∙ ap (λ (machine : Machine). reached machine g.answers.steps) there in
      subst (λ (machine : Machine). WentOut c old.machine machine out) (sym ends) (record {
        went = record {
          ordered = ordered_run g.answers.steps one between;
          calls = answers_fine c kernel old.machine out.answers one g.answers.steps each between first may begun;
          keeps = stays_through old.machine one two first second;
        };
        asks = λ tx prefix now. asks_on c one two tx prefix second (sends_ask c kernel (old.machine.begun + 1) now.at out.sends old.machine g.requests.steps now.sending tx prefix g.requests.each ordered refl now.there now.number now.asks);
      })

  -- a kernel that is there, behind its step
  stepped_stands : (old new : Machine) (kernel : ℕ) (made : KernelState × Out) (s : State) → 1 ≤ kernel → WentOut c old new made.1 → FitsBehind c old kernel made.1 made.0 → Stands c old s → OfAll (Fits c new) 1 (slice_set s.kernels (kernel - 1) made.0)
  stepped_stands old new kernel made s low w fits h =
      all_at (Fits c new) kernel made.0 s.kernels low (stands_on old new s w.went h).kernels (behind_fits c old new kernel made.0 made.1 w.went.keeps w.asks fits)

  took_by : {L : Type 0} (faults asked : L → ℕ → ℕ → ℕ) (o : Option KernelState) (kernel : ℕ) (input : Input) (said : Said) (old new : Wired L) (s : State) → kernel_at kernel s ≡ o → 1 ≤ kernel → said.next ≡ next_of old.machine → ComesAs old.machine input → GoesOut faults asked c kernel (stepped_by kernel o input said.next s).1 old new said → Stands c old.machine s → Stands c new.machine (stepped_by kernel o input said.next s).0
  took_by faults asked None kernel input said old new s there low next came g h = stands_on old.machine new.machine s (goes_out faults asked kernel (started said.next) old new said g h.ordered h.calls tt).went h
  took_by faults asked (Some found) kernel input said old new s there low next came g h =
      let made : KernelState × Out = kernel_step found input said.next (count_at s.steps kernel) in
      let so : StepsSo c old.machine kernel made = kernel_steps c old.machine kernel found input said.next (count_at s.steps kernel) low (ap (λ (tx : TxNo). tx.0) next) came (one_at (Fits c old.machine) kernel found s.kernels low h.kernels there) in
      let w = goes_out faults asked kernel made.1 old new said g h.ordered h.calls so.answers in
      record { ordered = w.went.ordered; calls = w.went.calls; kernels = stepped_stands old.machine new.machine kernel made s low w so.fits h }

  -- kernels stand so whatever is told
  pub told_stands : (machine : Machine) (s t : State) → t.kernels ≡ s.kernels → Stands c machine s → Stands c machine t
  told_stands machine s t same h = record { ordered = h.ordered; calls = h.calls; kernels = subst (OfAll (Fits c machine) 1) (sym same) h.kernels }

  image_stands : (o : Option KernelState) (machine : Machine) (kernel pid : ℕ) (image : processes.Machine) (s : State) → kernel_at kernel s ≡ o → 1 ≤ kernel → Stands c machine s → Stands c machine (image_put_at kernel pid image o s)
  image_stands None machine kernel pid image s there low h = h
  image_stands (Some found) machine kernel pid image s there low h = record {
    ordered = h.ordered;
    calls = h.calls;
    kernels = all_at (Fits c machine) kernel (image_put pid image found) s.kernels low h.kernels (fits_image c machine kernel pid image found (one_at (Fits c machine) kernel found s.kernels low h.kernels there));
  }

  module _ {L : Type 0} (faults asked : L → ℕ → ℕ → ℕ) (kernel : ℕ) (low : 1 ≤ kernel) where
    took_so : (input : Input) (said : Said) (old new : Wired L) (s t : State) → TakesSo faults asked c kernel input said old new s t → ComesAs old.machine input → Stands c old.machine s → Stands c new.machine t
    took_so input said old new s t so came h =
        told_stands new.machine (stepped kernel input said.next s).0 t (ap (λ (u : State). u.kernels) so.state) (took_by faults asked (kernel_at kernel s) kernel input said old new s refl low so.next came so.goes_out h)

    -- a packet that came, as the kernel takes it

    request_comes : (machine : Machine) (tx : TxNo) (from : ℕ) (body : Body) (input : Input) → arrived.Message input ≡ arriving.request_in tx from body → tx.0 ≤ machine.begun → ((bytes : List ℕ) → body_at machine tx ≡ Some bytes → (packet : Packet) × (reading bytes ≡ Some packet) × (packet.body ≡ body)) → ComesAs machine input
    request_comes machine tx from (bodies.Request body) input e begun reads =
        subst (ComesAs machine) (message_is (inputs.Request tx from body) input (sym e)) (begun, λ bytes f. let got = reads bytes f in ap request_read got.1 ∙ ap request_in got.2)
    request_comes machine tx from (bodies.Reply body) input e begun reads = absurd (cc)

    reply_comes : (machine : Machine) (tx : TxNo) (from : ℕ) (body : Body) (input : Input) → arrived.Message input ≡ reply_in tx from body → ComesAs machine input
    reply_comes machine tx from (bodies.Reply body) input e = subst (ComesAs machine) (message_is (inputs.Replied tx from body) input (sym e)) tt
    reply_comes machine tx from (bodies.Request body) input e = absurd (cc)

    first_comes : (old new : Machine) (copy : PacketCopy) (input : Input) (message : Packet) → arrival old copy ≡ FirstRequest → Ordered old → KeepsBodies old new → IsMessage reading (body_of (call_of old copy.tx)) message → arrived.Message input ≡ arriving.request_in copy.tx message.from message.body → ComesAs new input
    first_comes old new copy input message is ordered keeps reads e =
        let got = first_request copy (call_of old copy.tx) is in
        let call : Call = got.0 in
        let low_call : call.tx.0 ≤ old.begun = found_within (is_call copy.tx) 0 old.begun call old.unfinished ordered got.1 in
        let same : call.tx.0 ≡ copy.tx.0 = eqb-true call.tx.0 copy.tx.0 (found_is copy.tx call old.unfinished got.1) in
        let more : old.begun ≤ new.begun = keeps.more in
        let begun : copy.tx.0 ≤ old.begun = omega (arith, low_call, same) in
        let read : reading call.body ≡ Some message = subst (λ (o : Option Call). IsMessage reading (body_of o) message) got.1 reads in
        request_comes new copy.tx message.from message.body input e (omega (arith, begun, more))
        (λ bytes f. (message, ap reading (sym (some_is call.body bytes (sym (ap body_of got.1) ∙ keeps.same copy.tx bytes begun f))) ∙ read, refl))

    comes_as : (a : Arrival) (old new : Machine) (copy : PacketCopy) (input : Input) → arrival old copy ≡ a → Ordered old → KeepsBodies old new → Brings a old copy (arrived.Message input) → ComesAs new input
    comes_as FirstRequest old new copy input is ordered keeps brings = first_comes old new copy input brings.0 is ordered keeps brings.1 brings.2
    comes_as FirstReply old new copy input is ordered keeps brings = reply_comes new copy.tx brings.0.from brings.0.body input brings.2
    comes_as AskedAgain old new copy input is ordered keeps brings = absurd (not_again input _ _ brings.0 brings.1)
    comes_as Past old new copy input is ordered keeps brings = absurd (cc)

    silenced : (b : Bool) (tx : TxNo) (old new : Wired L) (s : State) → SilentIf faults asked b tx kernel old new → Stands c old.machine s → Stands c new.machine s
    silenced true tx old new s step h = step_stands faults asked old new (Silence tx kernel) s tt step h
    silenced false tx old new s same h = subst (λ (w : Wired L). Stands c w.machine s) (sym same) h

    given : (what : Arrived) (tx : TxNo) (old new : Wired L) (s t : State) → ((input : Input) → what ≡ arrived.Message input → ComesAs old.machine input) → Given faults asked c kernel tx what old new s t → Stands c old.machine s → Stands c new.machine t
    given (arrived.Message input) tx old new s t came g h =
        silenced (asks_prefix input && may_be_silent g.between.machine tx kernel) tx g.between new t g.silent (took_so input g.said old g.between s t g.takes (came input refl) h)
    given (arrived.Again from to drawn) tx old new s t came g h = subst (λ (w : Wired L). Stands c w.machine t) (sym g.0) (told_stands old.machine s t (ap (λ (u : State). u.kernels) g.1) h)
    given arrived.Old tx old new s t came g h = subst (λ (w : Wired L). Stands c w.machine t) (sym g.0) (subst (Stands c old.machine) (sym g.1) h)

    came : (o : Option PacketCopy) (number : CopyNo) (old new : Wired L) (s t : State) → Comes faults asked c kernel number o old new s t → Stands c old.machine s → Stands c new.machine t
    came None number old new s t g h = subst (λ (w : Wired L). Stands c w.machine t) (sym g.0) (subst (Stands c old.machine) (sym g.1) h)
    came (Some copy) number old new s t g h =
        let act : Act = Deliver number (given_in g.came) in
        let noted : State = noted_step kernel (delivery copy) s in
        let there : Stands c g.between.machine noted = told_stands g.between.machine s noted refl (step_stands faults asked old g.between act s tt g.arrives.step h) in
        let keeps : KeepsBodies old.machine g.between.machine = subst (KeepsBodies old.machine) (sym g.arrives.step.1) (after_stays old.machine act h.ordered) in
        given g.came copy.tx g.between new noted t
        (λ input e. comes_as (arrival old.machine copy) old.machine g.between.machine copy input refl h.ordered keeps (subst (λ (what : Arrived). Brings (arrival old.machine copy) old.machine copy what) e g.arrives.brings)) g.given there

    fired : (what : Expired) (tx : TxNo) (old new : Wired L) (s t : State) → FiredAs faults asked c kernel tx what old new s t → Stands c old.machine s → Stands c new.machine t
    fired (expired.Resent fates) tx old new s t g h = subst (λ (w : Wired L). Stands c w.machine t) (sym g.0) (told_stands old.machine s t (ap (λ (u : State). u.kernels) g.1) h)
    fired (expired.GivenUp before now) tx old new s t g h = took_so (inputs.GaveUp tx) g.said old new (noted_step kernel (events.Expire tx true) s) t g.takes tt (told_stands old.machine s (noted_step kernel (events.Expire tx true) s) refl h)

    expires : (b : Bool) (tx : TxNo) (old new : Wired L) (s t : State) → Expires faults asked c kernel tx b old new s t → Stands c old.machine s → Stands c new.machine t
    expires false tx old new s t g h = subst (λ (w : Wired L). Stands c w.machine t) (sym g.0) (subst (Stands c old.machine) (sym g.1) h)
    expires true tx old new s t g h = fired g.what tx g.between new s t g.then_so (step_stands faults asked old g.between (Expire tx (sent_in g.what)) s tt g.fires.step h)

    pub happened : (choice : Choice) (old new : Wired L) (s t : State) → Happens faults asked c kernel choice old new s t → Stands c old.machine s → Stands c new.machine t
    happened (choices.Deliver number) old new s t g h = came (copy_to kernel old.machine number) number old new s t g h
    happened (choices.Expire tx) old new s t g h = expires (may_fire kernel old.machine tx) tx old new s t g h
    happened (choices.WriteBack file block) old new s t g h = took_so (inputs.Due file block) g.said old new s t g.takes tt h

    -- bursts

    own_comes : (input : Input) (machine : Machine) → IsOwn input → ComesAs machine input
    own_comes (inputs.Request tx source body) machine own = absurd own
    own_comes input machine own = tt

    went_on : (o : Option Input) (what : BurstOutcome) (old new : Wired L) (s t : State) → ((input : Input) → o ≡ Some input → ComesAs old.machine input) → GoesOn faults asked c kernel o what old new s t → Stands c old.machine s → Stands c new.machine t
    went_on (Some input) (outcome.Took said) old new s t comes g h = took_so input said old new s t g (comes input refl) h
    went_on (Some input) outcome.Done old new s t came g h = absurd g
    went_on (Some input) outcome.Stale old new s t came g h = absurd g
    went_on None outcome.Done old new s t came g h = subst (λ (w : Wired L). Stands c w.machine t) (sym g.0) (subst (Stands c old.machine) (sym g.1) h)
    went_on None (outcome.Took said) old new s t came g h = absurd g
    went_on None outcome.Stale old new s t came g h = absurd g

    counted : (what : BurstOutcome) (b : Burst) (old new : Wired L) (s t : State) → GoesOn faults asked c kernel (came_to kernel b b.end (recorded kernel b s)) what old new (put_image kernel b.pid b.to (recorded kernel b s)) t → Stands c old.machine s → Stands c new.machine t
    counted what b old new s t g h =
        let there : State = recorded kernel b s in
        went_on (came_to kernel b b.end there) what old new (put_image kernel b.pid b.to there) t (λ input e. own_comes input old.machine (own_came b.end kernel b there input e)) g
        (image_stands (kernel_at kernel there) old.machine kernel b.pid b.to there refl low (told_stands old.machine s there refl h))

    pub ended : (what : BurstOutcome) (b : Burst) (old new : Wired L) (s t : State) → EndsAs faults asked c kernel b what old new s t → Stands c old.machine s → Stands c new.machine t
    ended outcome.Stale b old new s t g h = subst (λ (w : Wired L). Stands c w.machine t) (sym g.1) (told_stands old.machine s t (ap (λ (u : State). u.kernels) g.2) h)
    ended outcome.Done b old new s t g h = counted outcome.Done b old new s t g.1 h
    ended (outcome.Took said) b old new s t g h = counted (outcome.Took said) b old new s t g.1 h

  pub begun_stands : (o : Option Job) (machine : Machine) (kernel : ℕ) (s : State) → Stands c machine s → Stands c machine (begun_by kernel o s)
  begun_stands None machine kernel s h = h
  begun_stands (Some job) machine kernel s h = told_stands machine s (begun_by kernel (Some job) s) refl h
