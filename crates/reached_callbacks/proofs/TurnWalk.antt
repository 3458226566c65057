-- A turn of a kernel, for any fact of the wire's machine and of the kernels: what each of its parts keeps, every turn keeps.
use Rattle.std.proofs.Common.{◌≡◌, ℕ, ◌==◌, ◌≤◌, Bool, true, false, ◌&&◌, cond, List, [], Option, Some, None, refl, sym, ap, subst, ◌∙◌}
use Rattle.std.proofs.lemmas.Bool.{eqb-true}
use Rattle.sprite_ids.specs.declared.CopyNo.{CopyNo}
use Rattle.sprite_ids.specs.declared.TxNo.{TxNo}
use Rattle.sprite_ids.proofs.ListLaws.{some_is}
use Rattle.link_plan.specs.declared.Fate.{Fate}
use Rattle.link_plan.specs.declared.Fate.TheVariants.{Once}
use Rattle.process_machine.specs.Machine as processes
use Rattle.kernel_rpc.specs.declared.call.Arrival.{Arrival}
use Rattle.kernel_rpc.specs.declared.call.Arrival.TheVariants.{FirstRequest, FirstReply, AskedAgain, Past}
use Rattle.kernel_rpc.specs.declared.call.Call.{Call}
use Rattle.kernel_rpc.specs.declared.Expired.{Expired}
use Rattle.kernel_rpc.specs.declared.Expired.TheVariants as expired
use Rattle.kernel_rpc.specs.declared.PacketCopy.{PacketCopy}
use Rattle.kernel_rpc.specs.Bodies.{IsMessage, body_of, reply_of}
use Rattle.kernel_rpc.specs.Machine.{Machine, arrival, call_of, copy_of, is_last, may_be_silent, may_expire}
use Rattle.kernel_rpc.specs.Runs.{Deliver, Expire, Silence, after}
use Rattle.kernel_rpc.specs.Sound.{Wired}
use Rattle.kernel_rpc.specs.Steps.{IsStep, sent_in}
use Rattle.kernel_rpc.proofs.ArrivalLaws.{first_reply, first_request}
use Rattle.kernel_steps.specs.declared.Input.{Input}
use Rattle.kernel_steps.specs.declared.Input.TheVariants as inputs
use Rattle.packet_bodies.specs.declared.Body.{Body}
use Rattle.packet_bodies.specs.declared.Body.TheVariants as bodies
use Rattle.packet_bodies.specs.declared.ReplyBody.{ReplyBody}
use Rattle.packet_bodies.specs.declared.Request.{Request}
use Rattle.unix_calls.specs.declared.Description.{Description}
use Rattle.unix_calls.specs.declared.Event.TheVariants as events
use Rattle.wire_format.specs.declared.Packet.{Packet}
use Rattle.wire_format.specs.Packets.{reading}
use Rattle.cluster_wire.specs.Arriving.{Brings, SilentIf, asks_prefix, copy_to, given_in, only_to}
use Rattle.cluster_wire.specs.Arriving as arriving
use Rattle.cluster_wire.specs.Firing.{gives_up, is_from, is_last_in, may_fire}
use Rattle.cluster_wire.specs.declared.Arrived.{Arrived}
use Rattle.cluster_wire.specs.declared.Arrived.TheVariants as arrived
use Rattle.cluster_wire.specs.declared.Said.{Said}
use Rattle.cluster_kernels.specs.declared.State.{State}
use Rattle.cluster_kernels.specs.States.{noted_step, put_image}
use Rattle.cluster_steps.specs.Steps.{TakesSo}
use Rattle.cluster_choices.specs.declared.Choice.{Choice}
use Rattle.cluster_choices.specs.declared.Choice.TheVariants as choices
use Rattle.cluster_choices.specs.Acts.{Expires, FiredAs, Given, Happens, delivery}
use Rattle.cluster_choices.specs.Acts as acts
use Rattle.cluster_bursts.specs.declared.Burst.{Burst}
use Rattle.cluster_bursts.specs.declared.BurstOutcome.{BurstOutcome}
use Rattle.cluster_bursts.specs.declared.BurstOutcome.TheVariants as outcome
use Rattle.cluster_bursts.specs.declared.Job.{Job}
use Rattle.cluster_bursts.specs.Bursts.{EndsAs, GoesOn, begun_by, came_to, job_at, recorded}
use Rattle.sprite_cluster.specs.Reached.{At, Begins, Reached}
use Rattle.sprite_cluster.specs.Steps.{begun_turn}
use Rattle.sprite_cluster.proofs.KernelLaws.{IsOwn, own_came}
use Rattle.sprite_cluster.proofs.ReachedLaws.{Lasts, lasts_on}

-- whether a copy brings its receiver something
abbrev pub is_news : Arrival → Bool
is_news FirstRequest = true
is_news FirstReply = true
is_news AskedAgain = false
is_news Past = false

-- what a fact must bear in a turn of the kernel of that number that begins with that machine: P holds between the kernel's steps, and M
-- where it takes an input
pub record Turns {L : Type 0} (faults asked : L → ℕ → ℕ → ℕ) (c : Description) (kernel : ℕ) (first : Machine) (P : Machine → State → Type 0) (M : Input → Machine → State → Type 0) : Type 0 where
  -- whatever is told, and whatever processes do
  pub same : (machine : Machine) (s t : State) → t.kernels ≡ s.kernels → P machine s → P machine t
  pub images : (machine : Machine) (pid : ℕ) (image : processes.Machine) (s : State) → P machine s → P machine (put_image kernel pid image s)
  pub own : (input : Input) (machine : Machine) (s : State) → IsOwn input → P machine s → M input machine s
  -- a copy comes that brings nothing
  pub passes : (number : CopyNo) (copy : PacketCopy) (given : Fate) (s : State) → copy_of first number ≡ Some copy → is_news (arrival first copy) ≡ false → P first s → P (after first (Deliver number given)) s
  -- or the request of a call
  pub asks : (number : CopyNo) (copy : PacketCopy) (call : Call) (message : Packet) (body : Request) (s : State) → copy_of first number ≡ Some copy → copy.to ≡ kernel → arrival first copy ≡ FirstRequest → call_of first copy.tx ≡ Some call → reading call.body ≡ Some message
      → message.body ≡ bodies.Request body → P first s → M (inputs.Request copy.tx message.from body) (after first (Deliver number Once)) s
  pub asks_none : (number : CopyNo) (copy : PacketCopy) (call : Call) (message : Packet) (body : ReplyBody) (s : State) → copy_of first number ≡ Some copy → copy.to ≡ kernel → arrival first copy ≡ FirstRequest → call_of first copy.tx ≡ Some call → reading call.body ≡ Some message
      → message.body ≡ bodies.Reply body → P first s → P (after first (Deliver number Once)) s
  -- or its reply
  pub replies : (number : CopyNo) (copy : PacketCopy) (call : Call) (reply : List ℕ) (message : Packet) (body : ReplyBody) (s : State) → copy_of first number ≡ Some copy → copy.to ≡ kernel → arrival first copy ≡ FirstReply → call_of first copy.tx ≡ Some call → call.reply ≡ Some reply
      → reading reply ≡ Some message → message.body ≡ bodies.Reply body → P first s → M (inputs.Replied copy.tx message.from body) (after first (Deliver number Once)) s
  pub replies_none : (number : CopyNo) (copy : PacketCopy) (call : Call) (reply : List ℕ) (message : Packet) (body : Request) (s : State) → copy_of first number ≡ Some copy → copy.to ≡ kernel → arrival first copy ≡ FirstReply → call_of first copy.tx ≡ Some call → call.reply ≡ Some reply
      → reading reply ≡ Some message → message.body ≡ bodies.Request body → P first s → P (after first (Deliver number Once)) s
  -- a timer fires, and the call is tried again, or given up
  pub fires : (tx : TxNo) (call : Call) (sent : List (ℕ × Fate)) (s : State) → call_of first tx ≡ Some call → is_last call ≡ false → P first s → P (after first (Expire tx sent)) s
  pub ends : (tx : TxNo) (call : Call) (s : State) → call_of first tx ≡ Some call → call.from ≡ kernel → is_last call ≡ true → P first s → M (inputs.GaveUp tx) (after first (Expire tx [])) s
  -- the kernel takes the input, and all goes out that it says; it may go silent then
  pub takes : (input : Input) (said : Said) (old new : Wired L) (s t : State) → TakesSo faults asked c kernel input said old new s t → M input old.machine s → P new.machine t
  pub silent : (machine : Machine) (tx : TxNo) (s : State) → P machine s → P (after machine (Silence tx kernel)) s

module _ {L : Type 0} (faults asked : L → ℕ → ℕ → ℕ) (c : Description) (kernel : ℕ) (first : Machine) (P : Machine → State → Type 0) (M : Input → Machine → State → Type 0) (turns : Turns faults asked c kernel first P M) where
  stays : (old new : Wired L) (s t : State) → new ≡ old → t.kernels ≡ s.kernels → P old.machine s → P new.machine t
  stays old new s t same kept h = subst (λ (wire : Wired L). P wire.machine t) (sym same) (turns.same old.machine s t kept h)

  -- ---- what a copy brings

  silenced : (b : Bool) (tx : TxNo) (old new : Wired L) (s : State) → SilentIf faults asked b tx kernel old new → P old.machine s → P new.machine s
  silenced true tx old new s step h = subst (λ (machine : Machine). P machine s) (sym step.1) (turns.silent old.machine tx s h)
  silenced false tx old new s same h = subst (λ (wire : Wired L). P wire.machine s) (sym same) h

  taken : (input : Input) (came : Arrived) (tx : TxNo) (old new : Wired L) (s t : State) → came ≡ arrived.Message input → Given faults asked c kernel tx came old new s t → M input old.machine s → P new.machine t
  taken input came tx old new s t is given h =
      let g : Given faults asked c kernel tx (arrived.Message input) old new s t = subst (λ (what : Arrived). Given faults asked c kernel tx what old new s t) is given in
      silenced (asks_prefix input && may_be_silent g.between.machine tx kernel) tx g.between new t g.silent (turns.takes input g.said old g.between s t g.takes h)

  old_one : (came : Arrived) (tx : TxNo) (old new : Wired L) (s t : State) → came ≡ arrived.Old → Given faults asked c kernel tx came old new s t → P old.machine s → P new.machine t
  old_one came tx old new s t is given h =
      let g : Given faults asked c kernel tx arrived.Old old new s t = subst (λ (what : Arrived). Given faults asked c kernel tx what old new s t) is given in
      stays old new s t g.0 (ap (λ (u : State). u.kernels) g.1) h

  again : (from to : ℕ) (drawn : Fate) (came : Arrived) (tx : TxNo) (old new : Wired L) (s t : State) → came ≡ arrived.Again from to drawn → Given faults asked c kernel tx came old new s t → P old.machine s → P new.machine t
  again from to drawn came tx old new s t is given h =
      let g : Given faults asked c kernel tx (arrived.Again from to drawn) old new s t = subst (λ (what : Arrived). Given faults asked c kernel tx what old new s t) is given in
      stays old new s t g.0 (ap (λ (u : State). u.kernels) g.1) h

  -- the machine behind a delivery
  came_to_be : (number : CopyNo) (came : Arrived) (given : Fate) (old between : Wired L) → old.machine ≡ first → given_in came ≡ given → IsStep faults asked old (Deliver number (given_in came)) between → between.machine ≡ after first (Deliver number given)
  came_to_be number came given old between is drawn step = step.1 ∙ (ap (λ (machine : Machine). after machine (Deliver number (given_in came))) is ∙ ap (λ (fate : Fate). after first (Deliver number fate)) drawn)

  module _ (number : CopyNo) (copy : PacketCopy) (came : Arrived) (old between new : Wired L) (s t : State) (is : old.machine ≡ first) (flies : copy_of first number ≡ Some copy) (goes : copy.to ≡ kernel) (step : IsStep faults asked old (Deliver number (given_in came)) between)
      (given : Given faults asked c kernel copy.tx came between new s t) (h : P first s) where
    asked_by : (body : Body) (call : Call) (message : Packet) → arrival first copy ≡ FirstRequest → call_of first copy.tx ≡ Some call → reading call.body ≡ Some message → message.body ≡ body → came ≡ arriving.request_in copy.tx message.from body → P new.machine t
    asked_by (bodies.Request body) call message news there reads says e =
        let input : Input = inputs.Request copy.tx message.from body in
        taken input came copy.tx between new s t e given
        (subst (λ (machine : Machine). M input machine s) (sym (came_to_be number came Once old between is (ap given_in e) step)) (turns.asks number copy call message body s flies goes news there reads says h))
    asked_by (bodies.Reply body) call message news there reads says e =
        old_one came copy.tx between new s t e given
        (subst (λ (machine : Machine). P machine s) (sym (came_to_be number came Once old between is (ap given_in e) step)) (turns.asks_none number copy call message body s flies goes news there reads says h))

    replied_by : (body : Body) (call : Call) (reply : List ℕ) (message : Packet) → arrival first copy ≡ FirstReply → call_of first copy.tx ≡ Some call → call.reply ≡ Some reply → reading reply ≡ Some message → message.body ≡ body → came ≡ arriving.reply_in copy.tx message.from body → P new.machine t
    replied_by (bodies.Reply body) call reply message news there told reads says e =
        let input : Input = inputs.Replied copy.tx message.from body in
        taken input came copy.tx between new s t e given
        (subst (λ (machine : Machine). M input machine s) (sym (came_to_be number came Once old between is (ap given_in e) step)) (turns.replies number copy call reply message body s flies goes news there told reads says h))
    replied_by (bodies.Request body) call reply message news there told reads says e =
        old_one came copy.tx between new s t e given
        (subst (λ (machine : Machine). P machine s) (sym (came_to_be number came Once old between is (ap given_in e) step)) (turns.replies_none number copy call reply message body s flies goes news there told reads says h))

    request_read : (o : Option Call) (call : Call) (message : Packet) → o ≡ Some call → IsMessage reading (body_of o) message → reading call.body ≡ Some message
    request_read o call message e read = subst (λ (found : Option Call). IsMessage reading (body_of found) message) e read

    reply_read : (o : Option Call) (call : Call) (reply : List ℕ) (message : Packet) → o ≡ Some call → call.reply ≡ Some reply → IsMessage reading (reply_of o) message → reading reply ≡ Some message
    reply_read o call reply message e told read = subst (λ (bytes : Option (List ℕ)). IsMessage reading bytes message) told (subst (λ (found : Option Call). IsMessage reading (reply_of found) message) e read)

    arrives : (a : Arrival) → arrival first copy ≡ a → Brings a first copy came → P new.machine t
    arrives FirstRequest news brings =
        let got = first_request copy (call_of first copy.tx) news in
        asked_by brings.0.body got.0 brings.0 news got.1 (request_read (call_of first copy.tx) got.0 brings.0 got.1 brings.1) refl brings.2
    arrives FirstReply news brings =
        let got = first_reply copy (call_of first copy.tx) news in
        replied_by brings.0.body got.0 got.2.0 brings.0 news got.1 got.2.1 (reply_read (call_of first copy.tx) got.0 got.2.0 brings.0 got.1 got.2.1 brings.1) refl brings.2
    arrives AskedAgain news brings =
        again _ _ brings.0 came copy.tx between new s t brings.1 given
        (subst (λ (machine : Machine). P machine s) (sym (came_to_be number came brings.0 old between is (ap given_in brings.1) step)) (turns.passes number copy brings.0 s flies (ap is_news news) h))
    arrives Past news brings =
        old_one came copy.tx between new s t brings given
        (subst (λ (machine : Machine). P machine s) (sym (came_to_be number came Once old between is (ap given_in brings) step)) (turns.passes number copy Once s flies (ap is_news news) h))

  flies_to : (o : Option PacketCopy) (copy : PacketCopy) → only_to kernel o ≡ Some copy → (o ≡ Some copy) × (copy.to ≡ kernel)
  flies_to None copy e = absurd (cc)
  flies_to (Some found) copy e = by (found.to == kernel) refl e
    where
      by : (b : Bool) → (found.to == kernel) ≡ b → cond b (Some found) None ≡ Some copy → (Some found ≡ Some copy) × (copy.to ≡ kernel)
      by true is same = (same, ap (λ (one : PacketCopy). one.to) (sym (some_is found copy same)) ∙ eqb-true found.to kernel is)
      by false off same = absurd (cc)

  comes : (o : Option PacketCopy) (number : CopyNo) (old new : Wired L) (s t : State) → old.machine ≡ first → copy_to kernel first number ≡ o → acts.Comes faults asked c kernel number o old new s t → P first s → P new.machine t
  comes None number old new s t is e g h = stays old new s t g.0 (ap (λ (u : State). u.kernels) g.1) (subst (λ (machine : Machine). P machine s) (sym is) h)
  comes (Some copy) number old new s t is e g h =
      let flies = flies_to (copy_of first number) copy e in
      let noted : State = noted_step kernel (delivery copy) s in
      arrives number copy g.came old g.between new noted t is flies.0 flies.1 g.arrives.step g.given (turns.same first s noted refl h) (arrival first copy) refl
      (subst (λ (machine : Machine). Brings (arrival machine copy) machine copy g.came) is g.arrives.brings)

  -- ---- timers

  fired_call : (o : Option Call) (may : Bool) → (is_from kernel o && may) ≡ true → (call : Call) × (o ≡ Some call) × (call.from ≡ kernel)
  fired_call None may e = absurd (cc)
  fired_call (Some call) may e = by (call.from == kernel) refl e
    where
      by : (b : Bool) → (call.from == kernel) ≡ b → (b && may) ≡ true → (found : Call) × (Some call ≡ Some found) × (found.from ≡ kernel)
      by true here e = (call, refl, eqb-true call.from kernel here)
      by false off e = absurd (cc)

  fired : (what : Expired) (tx : TxNo) (call : Call) (old between new : Wired L) (s t : State) → old.machine ≡ first → call_of first tx ≡ Some call → call.from ≡ kernel → gives_up what ≡ is_last call → IsStep faults asked old (Expire tx (sent_in what)) between
      → FiredAs faults asked c kernel tx what between new s t → P first s → P new.machine t
  fired (expired.Resent fates) tx call old between new s t is there from last step g h =
      stays between new s t g.0 (ap (λ (u : State). u.kernels) g.1)
      (subst (λ (machine : Machine). P machine s) (sym (step.1 ∙ ap (λ (machine : Machine). after machine (Expire tx fates)) is)) (turns.fires tx call fates s there (sym last) h))
  fired (expired.GivenUp before now) tx call old between new s t is there from last step g h =
      let noted : State = noted_step kernel (events.Expire tx true) s in
      turns.takes (inputs.GaveUp tx) g.said between new noted t g.takes
      (subst (λ (machine : Machine). M (inputs.GaveUp tx) machine noted) (sym (step.1 ∙ ap (λ (machine : Machine). after machine (Expire tx [])) is)) (turns.ends tx call noted there from (sym last) (turns.same first s noted refl h)))

  expires : (b : Bool) (tx : TxNo) (old new : Wired L) (s t : State) → old.machine ≡ first → may_fire kernel first tx ≡ b → Expires faults asked c kernel tx b old new s t → P first s → P new.machine t
  expires false tx old new s t is may g h = stays old new s t g.0 (ap (λ (u : State). u.kernels) g.1) (subst (λ (machine : Machine). P machine s) (sym is) h)
  expires true tx old new s t is may g h =
      let got = fired_call (call_of first tx) (may_expire first tx) may in
      fired g.what tx got.0 old g.between new s t is got.1 got.2
      (subst (λ (machine : Machine). gives_up g.what ≡ is_last_in (call_of machine tx)) is g.fires.last ∙ ap is_last_in got.1) g.fires.step g.then_so h

  pub happened : (choice : Choice) (old new : Wired L) (s t : State) → old.machine ≡ first → Happens faults asked c kernel choice old new s t → P first s → P new.machine t
  happened (choices.Deliver number) old new s t is g h = comes (copy_to kernel first number) number old new s t is refl (subst (λ (machine : Machine). acts.Comes faults asked c kernel number (copy_to kernel machine number) old new s t) is g) h
  happened (choices.Expire tx) old new s t is g h = expires (may_fire kernel first tx) tx old new s t is refl (subst (λ (machine : Machine). Expires faults asked c kernel tx (may_fire kernel machine tx) old new s t) is g) h
  happened (choices.WriteBack file block) old new s t is g h =
      turns.takes (inputs.Due file block) g.said old new s t g.takes (turns.own (inputs.Due file block) old.machine s tt (subst (λ (machine : Machine). P machine s) (sym is) h))

  -- ---- bursts

  went_on : (o : Option Input) (what : BurstOutcome) (old new : Wired L) (s t : State) → ((input : Input) → o ≡ Some input → IsOwn input) → GoesOn faults asked c kernel o what old new s t → P old.machine s → P new.machine t
  went_on (Some input) (outcome.Took said) old new s t own g h = turns.takes input said old new s t g (turns.own input old.machine s (own input refl) h)
  went_on (Some input) outcome.Done old new s t own g h = absurd g
  went_on (Some input) outcome.Stale old new s t own g h = absurd g
  went_on None outcome.Done old new s t own g h = stays old new s t g.0 (ap (λ (u : State). u.kernels) g.1) h
  went_on None (outcome.Took said) old new s t own g h = absurd g
  went_on None outcome.Stale old new s t own g h = absurd g

  counted : (what : BurstOutcome) (b : Burst) (old new : Wired L) (s t : State) → GoesOn faults asked c kernel (came_to kernel b b.end (recorded kernel b s)) what old new (put_image kernel b.pid b.to (recorded kernel b s)) t → P old.machine s → P new.machine t
  counted what b old new s t g h =
      let there : State = recorded kernel b s in
      went_on (came_to kernel b b.end there) what old new (put_image kernel b.pid b.to there) t (λ input e. own_came b.end kernel b there input e) g
      (turns.images old.machine b.pid b.to there (turns.same old.machine s there refl h))

  pub ended : (what : BurstOutcome) (b : Burst) (old new : Wired L) (s t : State) → EndsAs faults asked c kernel b what old new s t → P old.machine s → P new.machine t
  ended outcome.Stale b old new s t g h = stays old new s t g.1 (ap (λ (u : State). u.kernels) g.2) h
  ended outcome.Done b old new s t g h = counted outcome.Done b old new s t g.1 h
  ended (outcome.Took said) b old new s t g h = counted (outcome.Took said) b old new s t g.1 h

  pub begun_so : (o : Option Job) (machine : Machine) (s : State) → P machine s → P machine (begun_by kernel o s)
  begun_so None machine s h = h
  begun_so (Some job) machine s h = turns.same machine s (begun_by kernel (Some job) s) refl h

-- ---- each reached cluster

module _ {L : Type 0} (faults asked : L → ℕ → ℕ → ℕ) (c : Description) (begun : L) (P : Machine → State → Type 0) (M : ℕ → Input → Machine → State → Type 0)
    (boots : (first : At L) → Begins faults asked c begun first → P first.wire.machine first.state) (turns : (kernel : ℕ) → 1 ≤ kernel → (old : At L) → Reached faults asked c begun old → Turns faults asked c kernel old.wire.machine P (M kernel)) where
  lasting : Lasts faults asked c begun (λ (at : At L). P at.wire.machine at.state)
  lasting = record {
    begins = λ first b. boots first b;
    chose = λ kernel choice old now reached goes h.
        let deeds = turns kernel goes.low old reached in
        deeds.same now.wire.machine goes.changes.turn now.state (ap (λ (s : State). s.kernels) goes.changes.stands)
        (happened faults asked c kernel old.wire.machine P (M kernel) deeds choice old.wire now.wire (begun_turn old.state) goes.changes.turn refl goes.changes.happens (deeds.same old.wire.machine old.state (begun_turn old.state) refl h));
    began = λ kernel old now reached goes h.
        let deeds = turns kernel goes.low old reached in
        subst (P now.wire.machine) (sym goes.changes.begun)
        (begun_so faults asked c kernel old.wire.machine P (M kernel) deeds (job_at c kernel old.state) now.wire.machine old.state (subst (λ (wire : Wired L). P wire.machine old.state) (sym goes.changes.same_wire) h));
    took = λ kernel b old now reached goes h.
        let deeds = turns kernel goes.low old reached in
        deeds.same now.wire.machine goes.changes.turn now.state (ap (λ (s : State). s.kernels) goes.changes.stands)
        (ended faults asked c kernel old.wire.machine P (M kernel) deeds goes.changes.ends.what b old.wire now.wire (begun_turn old.state) goes.changes.turn goes.changes.ends.ends (deeds.same old.wire.machine old.state (begun_turn old.state) refl h));
    lost = λ kernel b old now reached goes h.
        let deeds = turns kernel goes.low old reached in
        ended faults asked c kernel old.wire.machine P (M kernel) deeds goes.changes.ends.what b old.wire now.wire (begun_turn old.state) now.state goes.changes.ends.ends (deeds.same old.wire.machine old.state (begun_turn old.state) refl h);
  }

  -- the fact is one of each reached cluster
  pub of_reached : (now : At L) → Reached faults asked c begun now → P now.wire.machine now.state
  of_reached now reached = lasts_on faults asked c begun (λ (at : At L). P at.wire.machine at.state) now lasting reached
