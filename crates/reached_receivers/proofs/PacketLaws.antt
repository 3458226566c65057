-- Packets go to kernels of the description, where calls do: what each call of the wire sends, a turn, and a reached cluster.
use Rattle.std.proofs.Common.{◌≡◌, ℕ, ◌+◌, Bool, true, false, ◌&&◌, cond, List, [], ◌∷◌, map, Option, Some, None, refl, sym, subst}
use Rattle.std.specs.List.{AllByRecursion}
use Rattle.sprite_ids.specs.declared.CopyNo.{CopyNo}
use Rattle.sprite_ids.specs.declared.Tries.{Tries}
use Rattle.sprite_ids.specs.declared.TxNo.{TxNo}
use Rattle.sprite_ids.specs.Lists.{changed}
use Rattle.sprite_ids.proofs.ListLaws.{each_append, each_map, each_of_append}
use Rattle.link_plan.specs.declared.Fate.{Fate}
use Rattle.kernel_rpc.specs.declared.call.Arrival.{Arrival}
use Rattle.kernel_rpc.specs.declared.call.Arrival.TheVariants.{FirstRequest, FirstReply, AskedAgain, Past}
use Rattle.kernel_rpc.specs.declared.call.Call.{Call}
use Rattle.kernel_rpc.specs.declared.call.PacketCopy.{PacketCopy}
use Rattle.kernel_rpc.specs.declared.call.Part.{Part}
use Rattle.kernel_rpc.specs.declared.call.Part.TheVariants.{Answered, Silent}
use Rattle.kernel_rpc.specs.declared.call.Receiver.{Receiver}
use Rattle.kernel_rpc.specs.declared.Expired.{Expired}
use Rattle.kernel_rpc.specs.declared.Expired.TheVariants as expired
use Rattle.kernel_rpc.specs.Copies.{copies_by, requests}
use Rattle.kernel_rpc.specs.Histories.{reached}
use Rattle.kernel_rpc.specs.Machine.{Machine, answered, arrival, call_of, copy_of, delivered_as, fresh, further, gave_up, is_at, is_call, is_copy, is_last, landed, may_be_silent, new_call, replied, reply_to, request, resent}
use Rattle.kernel_rpc.specs.Runs.{Act, Begin, Answer, AsksAgain, AsksUnless, Counts, IsRun, MayAct, after, delivered_by, expired_by}
use Rattle.kernel_rpc.specs.Sound.{Wired}
use Rattle.kernel_rpc.specs.Steps.{counts_in, sent_in}
use Rattle.kernel_rpc.proofs.CopyLaws.{each_by, each_without}
use Rattle.kernel_rpc.proofs.RunLaws.{unfinished_replied}
use Rattle.kernel_rpc.proofs.SoundLaws.{found_sound}
use Rattle.kernel_steps.specs.declared.Input.{Input}
use Rattle.kernel_steps.specs.declared.Out.{Out}
use Rattle.kernel_steps.specs.declared.Sending.{Sending}
use Rattle.packet_bodies.specs.About.{about_of}
use Rattle.packet_bodies.specs.declared.ReplyBody.{ReplyBody}
use Rattle.unix_calls.specs.declared.Description.{Description}
use Rattle.wire_format.specs.Packets.{spelling}
use Rattle.cluster_wire.specs.Arriving.{SilentIf, asks_prefix, copy_to, given_in}
use Rattle.cluster_wire.specs.Calling.{IsBegin}
use Rattle.cluster_wire.specs.Firing.{may_fire}
use Rattle.cluster_wire.specs.Goings.{Going, goes, next_of, packet_to}
use Rattle.cluster_wire.specs.Ran.{EachDone}
use Rattle.cluster_wire.specs.Replying.{IsAnswer, goes_back}
use Rattle.cluster_wire.specs.declared.Arrived.{Arrived}
use Rattle.cluster_wire.specs.declared.Arrived.TheVariants as arrived
use Rattle.cluster_wire.specs.declared.Said.{Said}
use Rattle.cluster_kernels.specs.declared.State.{State}
use Rattle.cluster_steps.specs.Steps.{GoesOut}
use Rattle.cluster_choices.specs.declared.Choice.{Choice}
use Rattle.cluster_choices.specs.declared.Choice.TheVariants as choices
use Rattle.cluster_choices.specs.Acts.{Expires, FiredAs, Given, Happens, delivery}
use Rattle.cluster_choices.specs.Acts as acts
use Rattle.cluster_bursts.specs.declared.Burst.{Burst}
use Rattle.cluster_bursts.specs.declared.BurstOutcome.{BurstOutcome}
use Rattle.cluster_bursts.specs.declared.BurstOutcome.TheVariants as outcome
use Rattle.cluster_bursts.specs.Bursts.{EndsAs, GoesOn, came_to, recorded}
use Rattle.cluster_kernels.specs.States.{noted_step, put_image}
use Rattle.sprite_cluster.specs.Reached.{At, Chose, Lost, Reached, Took}
use Rattle.sprite_cluster.specs.Steps.{begun_turn}
use Rattle.sprite_cluster.proofs.ReachedLaws.{Lasts, lasts_on, reached_on}
use Rattle.reached_receivers.specs.Receivers.{GoesInside, IsInside}

-- ---- lists

-- what is so of all after some were changed was so before
each_back : {X : Type 0} (P : X → Type 0) (p : X → Bool) (f : X → X) → ((x : X) → P (f x) → P x) → (xs : List X) → AllByRecursion P (changed p f xs) → AllByRecursion P xs
each_back P p f back [] h = tt
each_back {X} P p f back (x ∷ xs) h = by (p x) h (each_back P p f back xs)
  where
    by : (b : Bool) → AllByRecursion P (cond b (f x ∷ xs) (x ∷ changed p f xs)) → (AllByRecursion P (changed p f xs) → AllByRecursion P xs) → AllByRecursion P (x ∷ xs)
    by true k later = (back x k.0, k.1)
    by false k later = (k.0, later k.1)

each_of_map : {X Y : Type 0} (P : Y → Type 0) (f : X → Y) (xs : List X) → AllByRecursion P (map f xs) → AllByRecursion (λ x. P (f x)) xs
each_of_map P f [] h = tt
each_of_map P f (x ∷ xs) h = (h.0, each_of_map P f xs h.1)

-- a call goes to kernels of the description alone
abbrev pub StaysInside : Description → Call → Type 0
StaysInside c call = AllByRecursion (λ (receiver : Receiver). IsInside c receiver.kernel) call.receivers

-- and comes from such
pub record IsWithin (c : Description) (call : Call) : Type 0 where
  pub source : IsInside c call.from
  pub receivers : StaysInside c call

module _ (c : Description) where
  abbrev AreWithin : Machine → Type 0
  AreWithin machine = AllByRecursion (IsWithin c) machine.unfinished

  abbrev Fly : Machine → Type 0
  Fly machine = AllByRecursion (GoesInside c) machine.copies

  -- ---- calls, before some receivers got further

  parts_back : (at : ℕ) (part : Part) (receivers : List Receiver) → AllByRecursion (λ (receiver : Receiver). IsInside c receiver.kernel) (changed (is_at at) (λ (receiver : Receiver). record receiver { part = part }) receivers) → AllByRecursion (λ (receiver : Receiver). IsInside c receiver.kernel) receivers
  parts_back at part receivers h = each_back (λ (receiver : Receiver). IsInside c receiver.kernel) (is_at at) (λ (receiver : Receiver). record receiver { part = part }) (λ receiver k. k) receivers h

  answered_back : (reply : List ℕ) (call : Call) → IsWithin c (answered reply call) → IsWithin c call
  answered_back reply call k = record { source = k.source; receivers = parts_back call.owner Answered call.receivers k.receivers }

  silent_back : (at : ℕ) (call : Call) → IsWithin c (further at Silent call) → IsWithin c call
  silent_back at call k = record { source = k.source; receivers = parts_back at Silent call.receivers k.receivers }

  -- ---- packets

  copies_in : (given : Fate) (packet : PacketCopy) → GoesInside c packet → AllByRecursion (GoesInside c) (copies_by given packet)
  copies_in given packet h = each_by (GoesInside c) given packet h h h

  requests_in : (packet : PacketCopy) (number : ℕ) (sent : List (ℕ × Fate)) → AllByRecursion (IsInside c) (map (λ (one : ℕ × Fate). one.0) sent) → AllByRecursion (GoesInside c) (requests packet number sent)
  requests_in packet number [] h = tt
  requests_in packet number (one ∷ rest) h =
      each_append (GoesInside c) (copies_by one.1 (record packet { number = record { 0 = number }; to = one.0 })) (requests packet (number + 2) rest)
      (copies_in one.1 (record packet { number = record { 0 = number }; to = one.0 }) h.0) (requests_in packet (number + 2) rest h.1)

  -- ---- calls of the wire

  begin_in : (machine : Machine) (old new : Counts) (from port : ℕ) (servers : List ℕ) (owner : ℕ) (body : List ℕ) (tries : Tries) (about : Option (ℕ × ℕ)) (before : ℕ) (sent : List (ℕ × Fate))
      → MayAct machine old (Begin from port servers owner body tries about before sent) new → AreWithin (after machine (Begin from port servers owner body tries about before sent)) → Fly machine → Fly (after machine (Begin from port servers owner body tries about before sent))
  begin_in machine old new from port servers owner body tries about before sent may within h =
      let call : Call = new_call machine from port servers owner body tries about before in
      let begun : IsWithin c call = (each_of_append (IsWithin c) machine.unfinished (call ∷ []) within).1.0 in
      each_append (GoesInside c) machine.copies (requests (request call machine.next_copy call.owner) machine.next_copy sent) h
      (requests_in (request call machine.next_copy call.owner) machine.next_copy sent
      (subst (AllByRecursion (IsInside c)) (sym may.5) (each_of_map (λ (receiver : Receiver). IsInside c receiver.kernel) fresh servers begun.receivers)))

  replied_in : (o : Option Call) (tx : TxNo) (given : Fate) (machine : Machine) → call_of machine tx ≡ o → AreWithin machine → Fly machine → Fly (replied o given machine)
  replied_in None tx given machine e within h = h
  replied_in (Some call) tx given machine e within h =
      each_append (GoesInside c) machine.copies (copies_by given (reply_to call machine.next_copy)) h (copies_in given (reply_to call machine.next_copy) (found_sound (IsWithin c) (is_call tx) call machine.unfinished e within).source)

  arrived_in : (a : Arrival) (copy : PacketCopy) (given : Fate) (machine : Machine) → AreWithin machine → Fly machine → Fly (delivered_as a copy given (landed copy machine))
  arrived_in FirstRequest copy given machine within h = each_without (GoesInside c) (is_copy copy.number) machine.copies h
  arrived_in FirstReply copy given machine within h = each_without (GoesInside c) (is_copy copy.number) machine.copies h
  arrived_in AskedAgain copy given machine within h = replied_in (call_of (landed copy machine) copy.tx) copy.tx given (landed copy machine) refl within (each_without (GoesInside c) (is_copy copy.number) machine.copies h)
  arrived_in Past copy given machine within h = each_without (GoesInside c) (is_copy copy.number) machine.copies h

  delivered_in : (o : Option PacketCopy) (given : Fate) (machine : Machine) → AreWithin machine → Fly machine → Fly (delivered_by o given machine)
  delivered_in None given machine within h = h
  delivered_in (Some copy) given machine within h = arrived_in (arrival machine copy) copy given machine within h

  expired_in : (o : Option Call) (tx : TxNo) (sent : List (ℕ × Fate)) (machine : Machine) (old new : Counts) → call_of machine tx ≡ o → AsksAgain old new sent o → AreWithin machine → Fly machine → Fly (expired_by tx o sent machine)
  expired_in None tx sent machine old new e asks within h = h
  expired_in (Some call) tx sent machine old new e asks within h = by (is_last call) asks
    where
      by : (b : Bool) → AsksUnless b old new sent call → Fly (cond b (gave_up tx machine) (resent tx (Some call) sent machine))
      by true same = h
      by false all =
          each_append (GoesInside c) machine.copies (requests (request call machine.next_copy call.owner) machine.next_copy sent) h
          (requests_in (request call machine.next_copy call.owner) machine.next_copy sent
          (subst (AllByRecursion (IsInside c)) (sym all.0) (each_map (IsInside c) (λ (receiver : Receiver). receiver.kernel) call.receivers (found_sound (IsWithin c) (is_call tx) call machine.unfinished e within).receivers)))

  -- ---- what a step says goes out

  module _ (kernel : ℕ) where
    begins_back : (sendings : List Sending) (machine : Machine) (steps : List (Act × Counts)) → EachDone (λ (machine : Machine) (sending : Sending). goes c kernel sending) (IsBegin kernel) sendings machine steps → AreWithin (reached machine steps) → AreWithin machine
    begins_back [] machine steps e h = subst (λ (all : List (Act × Counts)). AreWithin (reached machine all)) e h
    begins_back (sending ∷ sendings) machine [] e h = absurd e
    begins_back (sending ∷ sendings) machine (step ∷ steps) e h =
        let going : Going = e.0.way in
        let is = e.0.done in
        let later : AreWithin (after machine step.0) = begins_back sendings (after machine step.0) steps e.1 h in
        (each_of_append (IsWithin c) machine.unfinished (new_call machine kernel is.port going.servers going.owner (spelling (packet_to kernel (next_of machine) going)) going.tries (about_of going.body) is.before ∷ [])
        (subst (λ (a : Act). AreWithin (after machine a)) is.is later)).0

    begins_in : (sendings : List Sending) (machine : Machine) (counts : Counts) (steps : List (Act × Counts)) → EachDone (λ (machine : Machine) (sending : Sending). goes c kernel sending) (IsBegin kernel) sendings machine steps → IsRun machine counts steps → AreWithin (reached machine steps) → Fly machine → Fly (reached machine steps)
    begins_in [] machine counts steps e run within h = subst (λ (all : List (Act × Counts)). Fly (reached machine all)) (sym e) h
    begins_in (sending ∷ sendings) machine counts [] e run within h = absurd e
    begins_in (sending ∷ sendings) machine counts (step ∷ steps) e run within h =
        let going : Going = e.0.way in
        let is = e.0.done in
        let later : AreWithin (after machine step.0) = begins_back sendings (after machine step.0) steps e.1 within in
        begins_in sendings (after machine step.0) step.1 steps e.1 run.1 within
        (subst (λ (a : Act). Fly (after machine a)) (sym is.is)
        (begin_in machine counts step.1 kernel is.port going.servers going.owner (spelling (packet_to kernel (next_of machine) going)) going.tries (about_of going.body) is.before is.fates
        (subst (λ (a : Act). MayAct machine counts a step.1) is.is run.0) (subst (λ (a : Act). AreWithin (after machine a)) is.is later) h))

    answer_back : (machine : Machine) (tx : TxNo) (body : List ℕ) (given : Fate) → AreWithin (after machine (Answer tx body given)) → AreWithin machine
    answer_back machine tx body given h =
        subst (λ (calls : List Call). AllByRecursion (IsWithin c) calls) (unfinished_replied (call_of machine tx) given machine).0
        (each_back (IsWithin c) (is_call tx) (answered body) (answered_back body) (replied (call_of machine tx) given machine).unfinished h)

    answers_back : (answers : List (TxNo × ReplyBody)) (machine : Machine) (steps : List (Act × Counts)) → EachDone (goes_back kernel) IsAnswer answers machine steps → AreWithin (reached machine steps) → AreWithin machine
    answers_back [] machine steps e h = subst (λ (all : List (Act × Counts)). AreWithin (reached machine all)) e h
    answers_back (answer ∷ answers) machine [] e h = absurd e
    answers_back (answer ∷ answers) machine (step ∷ steps) e h =
        let later : AreWithin (after machine step.0) = answers_back answers (after machine step.0) steps e.1 h in
        answer_back machine e.0.way.tx (spelling e.0.way) e.0.done.given (subst (λ (a : Act). AreWithin (after machine a)) e.0.done.is later)

    answers_in : (answers : List (TxNo × ReplyBody)) (machine : Machine) (steps : List (Act × Counts)) → EachDone (goes_back kernel) IsAnswer answers machine steps → AreWithin (reached machine steps) → Fly machine → Fly (reached machine steps)
    answers_in [] machine steps e within h = subst (λ (all : List (Act × Counts)). Fly (reached machine all)) (sym e) h
    answers_in (answer ∷ answers) machine [] e within h = absurd e
    answers_in (answer ∷ answers) machine (step ∷ steps) e within h =
        let here : AreWithin machine = answers_back (answer ∷ answers) machine (step ∷ steps) e within in
        answers_in answers (after machine step.0) steps e.1 within
        (subst (λ (a : Act). Fly (after machine a)) (sym e.0.done.is) (replied_in (call_of machine e.0.way.tx) e.0.way.tx e.0.done.given machine refl here h))

    -- ---- a turn

    module _ {L : Type 0} (faults asked : L → ℕ → ℕ → ℕ) where
      between_in : (out : Out) (old new : Wired L) (said : Said) → (g : GoesOut faults asked c kernel out old new said) → AreWithin new.machine → AreWithin g.between.machine
      between_in out old new said g h = answers_back out.answers g.between.machine g.answers.steps g.answers.each (subst AreWithin g.answers.ran.reaches h)

      out_in : (out : Out) (old new : Wired L) (said : Said) → GoesOut faults asked c kernel out old new said → AreWithin new.machine → Fly old.machine → Fly new.machine
      out_in out old new said g within h =
          subst Fly (sym g.answers.ran.reaches)
          (answers_in out.answers g.between.machine g.answers.steps g.answers.each (subst AreWithin g.answers.ran.reaches within)
          (subst Fly (sym g.requests.ran.reaches)
          (begins_in out.sends old.machine (counts_in faults asked old.link) g.requests.steps g.requests.each g.requests.ran.run (subst AreWithin g.requests.ran.reaches (between_in out old new said g within)) h)))

      silent_within : (b : Bool) (tx : TxNo) (old new : Wired L) → SilentIf faults asked b tx kernel old new → AreWithin new.machine → AreWithin old.machine
      silent_within true tx old new step h = each_back (IsWithin c) (is_call tx) (further kernel Silent) (silent_back kernel) old.machine.unfinished (subst AreWithin step.1 h)
      silent_within false tx old new same h = subst (λ (wire : Wired L). AreWithin wire.machine) same h

      silent_in : (b : Bool) (tx : TxNo) (old new : Wired L) → SilentIf faults asked b tx kernel old new → Fly old.machine → Fly new.machine
      silent_in true tx old new step h = subst Fly (sym step.1) h
      silent_in false tx old new same h = subst (λ (wire : Wired L). Fly wire.machine) (sym same) h

      given_on : (what : Arrived) (tx : TxNo) (old new : Wired L) (s t : State) → Given faults asked c kernel tx what old new s t → AreWithin new.machine → Fly old.machine → Fly new.machine
      given_on (arrived.Message input) tx old new s t g within h =
          silent_in (asks_prefix input && may_be_silent g.between.machine tx kernel) tx g.between new g.silent (out_in _ old g.between g.said g.takes.goes_out (silent_within (asks_prefix input && may_be_silent g.between.machine tx kernel) tx g.between new g.silent within) h)
      given_on (arrived.Again from to drawn) tx old new s t g within h = subst (λ (wire : Wired L). Fly wire.machine) (sym g.0) h
      given_on arrived.Old tx old new s t g within h = subst (λ (wire : Wired L). Fly wire.machine) (sym g.0) h

      comes : (o : Option PacketCopy) (number : CopyNo) (old new : Wired L) (s t : State) → acts.Comes faults asked c kernel number o old new s t → AreWithin old.machine → AreWithin new.machine → Fly old.machine → Fly new.machine
      comes None number old new s t g before within h = subst (λ (wire : Wired L). Fly wire.machine) (sym g.0) h
      comes (Some copy) number old new s t g before within h =
          given_on g.came copy.tx g.between new (noted_step kernel (delivery copy) s) t g.given within (subst Fly (sym g.arrives.step.1) (delivered_in (copy_of old.machine number) (given_in g.came) old.machine before h))

      fired : (what : Expired) (tx : TxNo) (old new : Wired L) (s t : State) → FiredAs faults asked c kernel tx what old new s t → AreWithin new.machine → Fly old.machine → Fly new.machine
      fired (expired.Resent fates) tx old new s t g within h = subst (λ (wire : Wired L). Fly wire.machine) (sym g.0) h
      fired (expired.GivenUp before now) tx old new s t g within h = out_in _ old new g.said g.takes.goes_out within h

      expires : (b : Bool) (tx : TxNo) (old new : Wired L) (s t : State) → Expires faults asked c kernel tx b old new s t → AreWithin old.machine → AreWithin new.machine → Fly old.machine → Fly new.machine
      expires false tx old new s t g before within h = subst (λ (wire : Wired L). Fly wire.machine) (sym g.0) h
      expires true tx old new s t g before within h =
          fired g.what tx g.between new s t g.then_so within
          (subst Fly (sym g.fires.step.1) (expired_in (call_of old.machine tx) tx (sent_in g.what) old.machine (counts_in faults asked old.link) (counts_in faults asked g.between.link) refl g.fires.step.0.1 before h))

      happened : (choice : Choice) (old new : Wired L) (s t : State) → Happens faults asked c kernel choice old new s t → AreWithin old.machine → AreWithin new.machine → Fly old.machine → Fly new.machine
      happened (choices.Deliver number) old new s t g before within h = comes (copy_to kernel old.machine number) number old new s t g before within h
      happened (choices.Expire tx) old new s t g before within h = expires (may_fire kernel old.machine tx) tx old new s t g before within h
      happened (choices.WriteBack file block) old new s t g before within h = out_in _ old new g.said g.takes.goes_out within h

      went_on : (o : Option Input) (what : BurstOutcome) (old new : Wired L) (s t : State) → GoesOn faults asked c kernel o what old new s t → AreWithin new.machine → Fly old.machine → Fly new.machine
      went_on (Some input) (outcome.Took said) old new s t g within h = out_in _ old new said g.goes_out within h
      went_on (Some input) outcome.Done old new s t g within h = absurd g
      went_on (Some input) outcome.Stale old new s t g within h = absurd g
      went_on None outcome.Done old new s t g within h = subst (λ (wire : Wired L). Fly wire.machine) (sym g.0) h
      went_on None (outcome.Took said) old new s t g within h = absurd g
      went_on None outcome.Stale old new s t g within h = absurd g

      ended : (what : BurstOutcome) (b : Burst) (old new : Wired L) (s t : State) → EndsAs faults asked c kernel b what old new s t → AreWithin new.machine → Fly old.machine → Fly new.machine
      ended outcome.Stale b old new s t g within h = subst (λ (wire : Wired L). Fly wire.machine) (sym g.1) h
      ended outcome.Done b old new s t g within h = went_on (came_to kernel b b.end (recorded kernel b s)) outcome.Done old new (put_image kernel b.pid b.to (recorded kernel b s)) t g.1 within h
      ended (outcome.Took said) b old new s t g within h = went_on (came_to kernel b b.end (recorded kernel b s)) (outcome.Took said) old new (put_image kernel b.pid b.to (recorded kernel b s)) t g.1 within h

-- ---- reached clusters

module _ {L : Type 0} (faults asked : L → ℕ → ℕ → ℕ) (c : Description) (begun : L) (within_at : (now : At L) → Reached faults asked c begun now → AllByRecursion (IsWithin c) now.wire.machine.unfinished) where
  packets_last : Lasts faults asked c begun (λ (at : At L). AllByRecursion (GoesInside c) at.wire.machine.copies)
  packets_last = record {
    begins = λ first b. subst (λ (machine : Machine). AllByRecursion (GoesInside c) machine.copies) (sym b.idles) tt;
    chose = λ kernel choice old now reached goes h.
        happened c kernel faults asked choice old.wire now.wire (begun_turn old.state) goes.changes.turn goes.changes.happens (within_at old reached) (within_at now (reached_on faults asked c begun (Chose kernel choice) old now reached goes)) h;
    began = λ kernel old now reached goes h. subst (λ (wire : Wired L). AllByRecursion (GoesInside c) wire.machine.copies) (sym goes.changes.same_wire) h;
    took = λ kernel b old now reached goes h.
        ended c kernel faults asked goes.changes.ends.what b old.wire now.wire (begun_turn old.state) goes.changes.turn goes.changes.ends.ends (within_at now (reached_on faults asked c begun (Took kernel b) old now reached goes)) h;
    lost = λ kernel b old now reached goes h.
        ended c kernel faults asked goes.changes.ends.what b old.wire now.wire (begun_turn old.state) now.state goes.changes.ends.ends (within_at now (reached_on faults asked c begun (Lost kernel b) old now reached goes)) h;
  }

  pub packets_stay : (now : At L) → Reached faults asked c begun now → AllByRecursion (GoesInside c) now.wire.machine.copies
  packets_stay now reached = lasts_on faults asked c begun (λ (at : At L). AllByRecursion (GoesInside c) at.wire.machine.copies) now packets_last reached
