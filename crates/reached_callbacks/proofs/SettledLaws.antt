-- Callbacks that clients own: each is answered in the step in which its request comes, by flushed blocks.
use Rattle.std.proofs.Common.{arith, ◌≡◌, ℕ, ◌-◌, inl, inr, ◌==◌, Bool, true, false, not, List, [], ◌∷◌, length, map, slice_get, Option, Some, None, refl, sym, ap, subst, ◌∙◌, true≢false}
use Rattle.std.proofs.lemmas.Bool.{eqb-true}
use Rattle.std.specs.List.{AllByRecursion}
use Rattle.sprite_ids.specs.declared.CopyNo.{CopyNo}
use Rattle.sprite_ids.specs.declared.Flushed.{Flushed}
use Rattle.sprite_ids.specs.declared.TxNo.{TxNo}
use Rattle.sprite_ids.specs.Lists.{less}
use Rattle.sprite_ids.proofs.ListLaws.{some_is}
use Rattle.block_cache.specs.Held.{flushed_of}
use Rattle.link_plan.specs.declared.Fate.TheVariants.{Once}
use Rattle.kernel_rpc.specs.declared.call.Arrival.TheVariants.{FirstRequest}
use Rattle.kernel_rpc.specs.declared.call.Call.{Call}
use Rattle.kernel_rpc.specs.declared.call.PacketCopy.{PacketCopy}
use Rattle.kernel_rpc.specs.declared.call.Part.{Part}
use Rattle.kernel_rpc.specs.declared.call.Part.TheVariants.{Answered, Holding, Silent}
use Rattle.kernel_rpc.specs.Histories.{reached}
use Rattle.kernel_rpc.specs.Machine.{Machine, answered, arrival, call_of, copy_of, fresh, further, holds, is_call, is_holding, new_call, part_of, tried, with_part}
use Rattle.kernel_rpc.specs.Runs.{Act, Answer, Counts, Deliver, Expire, Silence, after}
use Rattle.kernel_rpc.specs.Sound.{Wired}
use Rattle.kernel_rpc.proofs.CopyLaws.{each_without}
use Rattle.kernel_rpc.proofs.NumberLaws.{each_changed}
use Rattle.kernel_rpc.proofs.PartLaws.{part_stays}
use Rattle.kernel_rpc.proofs.RunLaws.{Ordered, ordered_after}
use Rattle.kernel_rpc.proofs.SoundLaws.{found_is}
use Rattle.kernel_rpc.proofs.TryLaws.{each_kept}
use Rattle.kernel_steps.specs.declared.Input.{Input}
use Rattle.kernel_steps.specs.declared.Input.TheVariants as inputs
use Rattle.kernel_steps.specs.declared.Out.{Out}
use Rattle.kernel_steps.specs.Outs.{started}
use Rattle.packet_bodies.specs.declared.Body.TheVariants as bodies
use Rattle.packet_bodies.specs.declared.CallbackRequest.{CallbackRequest}
use Rattle.packet_bodies.specs.declared.ReplyBody.{ReplyBody}
use Rattle.packet_bodies.specs.declared.ReplyBody.TheVariants as replies
use Rattle.packet_bodies.specs.declared.Request.{Request}
use Rattle.packet_bodies.specs.declared.Request.TheVariants as requests
use Rattle.unix_calls.specs.declared.Description.{Description}
use Rattle.unix_calls.specs.declared.KernelLine.{KernelLine}
use Rattle.wire_format.specs.declared.Packet.{Packet}
use Rattle.wire_format.specs.Packets.{reading, spelling}
use Rattle.wire_format.specs.PacketLaws.{spelled_is_read}
use Rattle.client_homes.specs.declared.ClientProcs.{ClientProcs}
use Rattle.client_homes.specs.Clusters.{serves_none}
use Rattle.cluster_wire.specs.Goings.{Going, goes}
use Rattle.cluster_wire.specs.Ran.{EachDone}
use Rattle.cluster_wire.specs.Replying.{IsAnswer, goes_back}
use Rattle.cluster_wire.specs.declared.Said.{Said}
use Rattle.cluster_kernels.specs.declared.KernelState.{KernelState}
use Rattle.cluster_kernels.specs.declared.KernelState.TheVariants as kernels
use Rattle.cluster_kernels.specs.declared.State.{State}
use Rattle.cluster_kernels.specs.States.{count_at, kernel_at, stepped, stepped_by}
use Rattle.cluster_steps.specs.Steps.{GoesOut, TakesSo}
use Rattle.sprite_cluster.specs.Reached.{At, Reached}
use Rattle.reached_domains.specs.Domains.{asked_request, request_in, request_read}
use Rattle.stall_laws.proofs.CallLaws.{begins_keep, ordered_run}
use Rattle.stall_laws.proofs.ReceiverLaws.{answered_none, fresh_none, held_before}
use Rattle.reached_callbacks.specs.Callbacks.{BringsFlushed}
use Rattle.reached_callbacks.proofs.AnswerLaws.{IsIn, callback_in}
use Rattle.reached_callbacks.proofs.KindLaws.{AreKinds, KindsAre, client_there, kind_there, kinds_begun, kinds_image, kinds_took, serves_some}
use Rattle.reached_callbacks.proofs.MachineLaws.{GoesBack, answered_calls, asked_calls, given_up_calls, goes_so, passed_calls, replied_calls, tried_calls}
use Rattle.reached_callbacks.proofs.TurnWalk.{Turns, of_reached}

-- whether a request is a callback
abbrev is_callback : Request → Bool
is_callback (requests.Callback request) = true
is_callback body = false

callback_only : (body : Request) (request : CallbackRequest) → is_callback body ≡ false → Some body ≡ Some (requests.Callback request) → ⊥
callback_only body request off e = absurd (true≢false (sym (ap is_callback (some_is body (requests.Callback request) e)) ∙ off))

-- where nobody has it any more
not_held : (o : Bool) → (o ≡ true → ⊥) → o ≡ false
not_held true h = absurd (h refl)
not_held false h = refl

free_with : (at other : ℕ) (part : Part) (call : Call) → is_holding part ≡ false → holds (part_of other call.receivers) ≡ false → holds (part_of other (with_part at part call.receivers)) ≡ false
free_with at other part call off free = not_held (holds (part_of other (with_part at part call.receivers))) (λ held. true≢false (sym (held_before at other part call.receivers off held) ∙ free))

not_both : (o : Option KernelLine) → serves_some o ≡ true → serves_none o ≡ true → ⊥
not_both None some none = absurd (cc)
not_both (Some line) some none = by (length line.serves == 0) some none
  where
    by : (b : Bool) → not b ≡ true → b ≡ true → ⊥
    by true k e = absurd (cc)
    by false k e = absurd (cc)

module _ (c : Description) where
  -- a client that owns the callback doesn't have it; and a reply of a kernel that serves nothing brings flushed blocks
  pub record IsSettled (call : Call) : Type 0 where
    pub free : serves_none (slice_get c.kernels (call.owner - 1)) ≡ true → holds (part_of call.owner call.receivers) ≡ false
    pub told : serves_some (slice_get c.kernels (call.owner - 1)) ≡ false → (reply : List ℕ) → call.reply ≡ Some reply → BringsFlushed reply

  abbrev pub Settled : Call → Type 0
  Settled call = (request : CallbackRequest) → asked_request call.body ≡ Some (requests.Callback request) → IsSettled call

  settled_tried : (call : Call) → Settled call → Settled (tried call)
  settled_tried call k request asks = let so = k request asks in record { free = so.free; told = so.told }

  settled_silent : (at : ℕ) (call : Call) → Settled call → Settled (further at Silent call)
  settled_silent at call k request asks = let so = k request asks in record { free = λ client. free_with at call.owner Silent call refl (so.free client); told = so.told }

  -- a request comes that is no callback, or to another kernel than its owner, or to a server
  settled_other : (at : ℕ) (call : Call) (body : Request) → asked_request call.body ≡ Some body → is_callback body ≡ false → Settled (further at Holding call)
  settled_other at call body is off request asks = absurd (callback_only body request off (sym is ∙ asks))

  settled_none : (at : ℕ) (call : Call) → asked_request call.body ≡ None → Settled (further at Holding call)
  settled_none at call is request asks = let none : None ≡ Some (requests.Callback request) = sym is ∙ asks in absurd (cc)

  settled_elsewhere : (at : ℕ) (call : Call) → serves_none (slice_get c.kernels (at - 1)) ≡ false → Settled call → Settled (further at Holding call)
  settled_elsewhere at call serves k request asks = let so = k request asks in record { free = λ client. by (at == call.owner) refl client (so.free client); told = so.told }
    where
      by : (b : Bool) → (at == call.owner) ≡ b → serves_none (slice_get c.kernels (call.owner - 1)) ≡ true → holds (part_of call.owner call.receivers) ≡ false → holds (part_of call.owner (with_part at Holding call.receivers)) ≡ false
      by true here client free = absurd (true≢false (sym client ∙ subst (λ n. serves_none (slice_get c.kernels (n - 1)) ≡ false) (eqb-true at call.owner here) serves))
      by false off client free = ap holds (part_stays at call.owner Holding call.receivers off) ∙ free

  settled_new : (machine : Machine) (from port : ℕ) (servers : List ℕ) (owner : ℕ) (body : List ℕ) (going : Going) (about : Option (ℕ × ℕ)) (before : ℕ) → Settled (new_call machine from port servers owner body going.tries about before)
  settled_new machine from port servers owner body going about before request asks = record {
    free = λ client. not_held (holds (part_of owner (map fresh servers))) (fresh_none owner servers);
    told = λ client reply e. absurd (cc);
  }

  -- ---- answers go back

  abbrev pub AllSettled : List Call → Type 0
  AllSettled calls = AllByRecursion Settled calls

  -- all but that one
  abbrev But : TxNo → Call → Type 0
  But tx call = is_call tx call ≡ false → Settled call

  module _ (kernel : ℕ) (answers_so : (call : Call) → call.owner ≡ kernel → holds (part_of call.owner call.receivers) ≡ true → Settled call → (reply : List ℕ) → Settled (answered reply call)) where
    -- behind one answer
    behind : (F G : Call → Type 0) (answer : TxNo × ReplyBody) (machine : Machine) (packet : Packet) (act : Act) → goes_back kernel machine answer ≡ Some packet → IsAnswer machine packet act → Ordered machine
        → ((call : Call) → is_call answer.0 call ≡ false → F call → G call) → ((call : Call) → call.owner ≡ kernel → holds (part_of call.owner call.receivers) ≡ true → is_call answer.0 call ≡ true → F call → G (answered (spelling packet) call))
        → AllByRecursion F machine.unfinished → AllByRecursion G (after machine act).unfinished
    behind F G answer machine packet act planned is ordered others own h =
        let goes = goes_so kernel machine answer packet planned in
        let act_is : act ≡ Answer answer.0 (spelling packet) is.given = is.is ∙ ap (λ (p : Packet). Answer p.tx (spelling packet) is.given) goes.is in
        subst (λ (a : Act). AllByRecursion G (after machine a).unfinished) (sym act_is)
        (subst (AllByRecursion G) (sym (answered_calls machine answer.0 (spelling packet) is.given))
        (each_changed F G answer.0 (answered (spelling packet)) 0 machine.begun machine.unfinished ordered others (λ found e k. found_own goes found (sym goes.there ∙ e) (find_call found e) k) h))
      where
        find_call : (found : Call) → call_of machine answer.0 ≡ Some found → is_call answer.0 found ≡ true
        find_call found e = found_is answer.0 found machine.unfinished e

        found_own : (goes : GoesBack kernel machine answer packet) (found : Call) → Some goes.call ≡ Some found → is_call answer.0 found ≡ true → F found → G (answered (spelling packet) found)
        found_own goes found same is_it k =
            let here : goes.call ≡ found = some_is goes.call found same in
            own found (ap (λ (call : Call). call.owner) (sym here) ∙ goes.own) (subst (λ (call : Call). holds (part_of call.owner call.receivers) ≡ true) here goes.held) is_it k

    answers_settled : (answers : List (TxNo × ReplyBody)) (machine : Machine) (steps : List (Act × Counts)) → EachDone (goes_back kernel) IsAnswer answers machine steps → Ordered machine → AllSettled machine.unfinished → AllSettled (reached machine steps).unfinished
    answers_settled [] machine steps e ordered h = subst (λ (all : List (Act × Counts)). AllSettled (reached machine all).unfinished) (sym e) h
    answers_settled (answer ∷ answers) machine [] e ordered h = absurd e
    answers_settled (answer ∷ answers) machine (step ∷ steps) e ordered h =
        answers_settled answers (after machine step.0) steps e.1 (ordered_after machine step.0 ordered)
        (behind Settled Settled answer machine e.0.way step.0 e.0.planned e.0.done ordered (λ call off k. k) (λ call own held is k. answers_so call own held k (spelling e.0.way)) h)

    -- the callback that came is answered by flushed blocks
    flushed_now : (tx : TxNo) (flushed : Flushed) (answer : TxNo × ReplyBody) (machine : Machine) (packet : Packet) (act : Act) → answer ≡ (tx, replies.Flushed flushed) → goes_back kernel machine answer ≡ Some packet → IsAnswer machine packet act
        → (call : Call) → Settled (answered (spelling packet) call)
    flushed_now tx flushed answer machine packet act same planned is call request asks = record {
      free = λ owns. not_held (holds (part_of call.owner (with_part call.owner Answered call.receivers))) (answered_none call.owner call.receivers);
      told = λ owns reply e. subst BringsFlushed (some_is (spelling packet) reply e) (record {
        packet = packet;
        flushed = flushed;
        reads = spelled_is_read packet is.is_packet;
        is = ap (λ (p : Packet). p.body) (goes_so kernel machine answer packet planned).is ∙ ap (λ (a : TxNo × ReplyBody). bodies.Reply a.1) same;
      });
    }

    answers_flushed : (tx : TxNo) (flushed : Flushed) (answers : List (TxNo × ReplyBody)) (machine : Machine) (steps : List (Act × Counts)) → EachDone (goes_back kernel) IsAnswer answers machine steps → IsIn (tx, replies.Flushed flushed) answers → Ordered machine
        → AllByRecursion (But tx) machine.unfinished → AllSettled (reached machine steps).unfinished
    answers_flushed tx flushed [] machine steps e has ordered h = absurd has
    answers_flushed tx flushed (answer ∷ answers) machine [] e has ordered h = absurd e
    answers_flushed tx flushed (answer ∷ answers) machine (step ∷ steps) e (inl here) ordered h =
        answers_settled answers (after machine step.0) steps e.1 (ordered_after machine step.0 ordered)
        (behind (But tx) Settled answer machine e.0.way step.0 e.0.planned e.0.done ordered
        (λ call off k. k (sym (ap (λ (a : TxNo × ReplyBody). is_call a.0 call) here) ∙ off))
        (λ call own held is k. flushed_now tx flushed answer machine e.0.way step.0 here e.0.planned e.0.done call) h)
    answers_flushed tx flushed (answer ∷ answers) machine (step ∷ steps) e (inr later) ordered h =
        answers_flushed tx flushed answers (after machine step.0) steps e.1 later (ordered_after machine step.0 ordered)
        (behind (But tx) (But tx) answer machine e.0.way step.0 e.0.planned e.0.done ordered (λ call off k. k) (λ call own held is k off. answers_so call own held (k off) (spelling e.0.way)) h)

  -- a client has none that it could answer, and a server's answers aren't looked at
  abbrev AnswersSo : ℕ → Type 0
  AnswersSo kernel = (call : Call) → call.owner ≡ kernel → holds (part_of call.owner call.receivers) ≡ true → Settled call → (reply : List ℕ) → Settled (answered reply call)

  client_answers : (kernel : ℕ) → serves_none (slice_get c.kernels (kernel - 1)) ≡ true → AnswersSo kernel
  client_answers kernel client call own held k reply request asks =
      absurd (true≢false (sym held ∙ (k request asks).free (subst (λ n. serves_none (slice_get c.kernels (n - 1)) ≡ true) (sym own) client)))

  server_answers : (kernel : ℕ) → serves_some (slice_get c.kernels (kernel - 1)) ≡ true → AnswersSo kernel
  server_answers kernel serves call own held k reply request asks =
      let here : serves_some (slice_get c.kernels (call.owner - 1)) ≡ true = subst (λ n. serves_some (slice_get c.kernels (n - 1)) ≡ true) (sym own) serves in
      record {
        free = λ client. absurd (not_both (slice_get c.kernels (call.owner - 1)) here client);
        told = λ off other e. absurd (true≢false (sym here ∙ off));
      }

  -- ---- a cluster

  pub record Stands (machine : Machine) (s : State) : Type 0 where
    pub ordered : Ordered machine
    pub calls : AllSettled machine.unfinished
    pub kinds : KindsAre c s

  -- a callback is in a client's hand, or nothing
  data Hand (kernel : ℕ) (input : Input) (machine : Machine) (s : State) : Type 0 where
    Plain : Stands machine s → Hand kernel input machine s
    Called : (tx : TxNo) (source : ℕ) (request : CallbackRequest) (client : ClientProcs) → input ≡ inputs.Request tx source (requests.Callback request) → kernel_at kernel s ≡ Some (kernels.Client client)
        → serves_none (slice_get c.kernels (kernel - 1)) ≡ true → Ordered machine → AllByRecursion (But tx) machine.unfinished → KindsAre c s → Hand kernel input machine s

  module _ {L : Type 0} (faults asked : L → ℕ → ℕ → ℕ) (kernel : ℕ) where
    -- ---- what is said goes out

    ordered_out : (out : Out) (old new : Wired L) (said : Said) → GoesOut faults asked c kernel out old new said → Ordered old.machine → Ordered new.machine
    ordered_out out old new said g h =
        subst Ordered (sym g.answers.ran.reaches) (ordered_run g.answers.steps g.between.machine (subst Ordered (sym g.requests.ran.reaches) (ordered_run g.requests.steps old.machine h)))

    ordered_between : (out : Out) (old new : Wired L) (said : Said) (g : GoesOut faults asked c kernel out old new said) → Ordered old.machine → Ordered g.between.machine
    ordered_between out old new said g h = subst Ordered (sym g.requests.ran.reaches) (ordered_run g.requests.steps old.machine h)

    begun_out : (F : Call → Type 0) → ((machine : Machine) (from port : ℕ) (servers : List ℕ) (owner : ℕ) (body : List ℕ) (going : Going) (about : Option (ℕ × ℕ)) (before : ℕ) → F (new_call machine from port servers owner body going.tries about before))
        → (out : Out) (old new : Wired L) (said : Said) (g : GoesOut faults asked c kernel out old new said) → AllByRecursion F old.machine.unfinished → AllByRecursion F g.between.machine.unfinished
    begun_out F fresh_so out old new said g h =
        subst (λ (machine : Machine). AllByRecursion F machine.unfinished) (sym g.requests.ran.reaches) (begins_keep F fresh_so c kernel out.sends old.machine g.requests.steps g.requests.each h)

    plain_out : AnswersSo kernel → (out : Out) (old new : Wired L) (said : Said) → GoesOut faults asked c kernel out old new said → Ordered old.machine → AllSettled old.machine.unfinished → AllSettled new.machine.unfinished
    plain_out so out old new said g ordered h =
        subst (λ (machine : Machine). AllSettled machine.unfinished) (sym g.answers.ran.reaches)
        (answers_settled kernel so out.answers g.between.machine g.answers.steps g.answers.each (ordered_between out old new said g ordered) (begun_out Settled settled_new out old new said g h))

    -- where no kernel is there, nothing is said
    none_out : (next : TxNo) (old new : Wired L) (said : Said) → GoesOut faults asked c kernel (started next) old new said → AllSettled old.machine.unfinished → AllSettled new.machine.unfinished
    none_out next old new said g h =
        let none : g.answers.steps ≡ [] = g.answers.each in
        subst (λ (machine : Machine). AllSettled machine.unfinished) (sym (g.answers.ran.reaches ∙ ap (λ (steps : List (Act × Counts)). reached g.between.machine steps) none)) (begun_out Settled settled_new (started next) old new said g h)

    stepped_out : (o : Option KernelState) (input : Input) (next : TxNo) (old new : Wired L) (said : Said) (s : State) → kernel_at kernel s ≡ o → GoesOut faults asked c kernel (stepped_by kernel o input next s).1 old new said → Stands old.machine s → AllSettled new.machine.unfinished
    stepped_out None input next old new said s e g h = none_out next old new said g h.calls
    stepped_out (Some found) input next old new said s e g h = plain_out (by (serves_some (slice_get c.kernels (kernel - 1))) refl) (stepped_by kernel (Some found) input next s).1 old new said g h.ordered h.calls
      where
        by : (b : Bool) → serves_some (slice_get c.kernels (kernel - 1)) ≡ b → AnswersSo kernel
        by true is = server_answers kernel is
        by false is = client_answers kernel (kind_there c.kernels s.kernels (kernel - 1) found h.kinds e is)

    called_out : (tx : TxNo) (source : ℕ) (request : CallbackRequest) (client : ClientProcs) (next : TxNo) (old new : Wired L) (said : Said) (s : State) → serves_none (slice_get c.kernels (kernel - 1)) ≡ true
        → GoesOut faults asked c kernel (stepped_by kernel (Some (kernels.Client client)) (inputs.Request tx source (requests.Callback request)) next s).1 old new said → Ordered old.machine → AllByRecursion (But tx) old.machine.unfinished → AllSettled new.machine.unfinished
    called_out tx source request client next old new said s is g ordered h =
        let out : Out = (stepped_by kernel (Some (kernels.Client client)) (inputs.Request tx source (requests.Callback request)) next s).1 in
        subst (λ (machine : Machine). AllSettled machine.unfinished) (sym g.answers.ran.reaches)
        (answers_flushed kernel (client_answers kernel is) tx (flushed_of client.files.cache request.file) out.answers g.between.machine g.answers.steps g.answers.each (callback_in client tx source request next (count_at s.steps kernel))
        (ordered_between out old new said g ordered)
        (begun_out (But tx) (λ machine from port servers owner body going about before off. settled_new machine from port servers owner body going about before) out old new said g h))

    took : (input : Input) (said : Said) (old new : Wired L) (s t : State) → TakesSo faults asked c kernel input said old new s t → Hand kernel input old.machine s → Stands new.machine t
    took input said old new s t so (Plain h) = record {
      ordered = ordered_out (stepped kernel input said.next s).1 old new said so.goes_out h.ordered;
      calls = stepped_out (kernel_at kernel s) input said.next old new said s refl so.goes_out h;
      kinds = kinds_took c kernel faults asked input said old new s t so h.kinds;
    }
    took input said old new s t so (Called tx source request client came there is ordered calls kinds) = record {
      ordered = ordered_out (stepped kernel input said.next s).1 old new said so.goes_out ordered;
      calls = called_out tx source request client said.next old new said s is
          (subst (λ (what : Input). GoesOut faults asked c kernel (stepped_by kernel (Some (kernels.Client client)) what said.next s).1 old new said) came
          (subst (λ (o : Option KernelState). GoesOut faults asked c kernel (stepped_by kernel o input said.next s).1 old new said) there so.goes_out)) ordered calls;
      kinds = kinds_took c kernel faults asked input said old new s t so kinds;
    }

    -- ---- a request comes

    module _ (first : Machine) (number : CopyNo) (copy : PacketCopy) (call : Call) (message : Packet) (s : State) (flies : copy_of first number ≡ Some copy) (goes : copy.to ≡ kernel) (news : arrival first copy ≡ FirstRequest) (there : call_of first copy.tx ≡ Some call)
        (reads : reading call.body ≡ Some message) (h : Stands first s) where
      handed : (G : Call → Type 0) → ((one : Call) → Settled one → G one) → ((found : Call) → call ≡ found → is_call copy.tx found ≡ true → Settled found → G (further copy.to Holding found)) → AllByRecursion G (after first (Deliver number Once)).unfinished
      handed G others own =
          subst (AllByRecursion G) (sym (asked_calls first number copy Once flies news))
          (each_changed Settled G copy.tx (further copy.to Holding) 0 first.begun first.unfinished h.ordered (λ one off k. others one k)
          (λ found e k. own found (some_is call found (sym there ∙ e)) (found_is copy.tx found first.unfinished e) k) h.calls)

      still : AllSettled (after first (Deliver number Once)).unfinished → Stands (after first (Deliver number Once)) s
      still calls = record { ordered = ordered_after first (Deliver number Once) h.ordered; calls = calls; kinds = h.kinds }

      asks_nothing : (body : ReplyBody) → message.body ≡ bodies.Reply body → Stands (after first (Deliver number Once)) s
      asks_nothing body says = still (handed Settled (λ one k. k) (λ found same is k. settled_none copy.to found (sym (ap (λ (one : Call). asked_request one.body) same) ∙ (ap request_read reads ∙ ap request_in says))))

      other_asked : (body : Request) → message.body ≡ bodies.Request body → is_callback body ≡ false → Stands (after first (Deliver number Once)) s
      other_asked body says off =
          still (handed Settled (λ one k. k) (λ found same is k. settled_other copy.to found body (sym (ap (λ (one : Call). asked_request one.body) same) ∙ (ap request_read reads ∙ ap request_in says)) off))

      called_by : (b : Bool) (request : CallbackRequest) → serves_none (slice_get c.kernels (kernel - 1)) ≡ b → Hand kernel (inputs.Request copy.tx message.from (requests.Callback request)) (after first (Deliver number Once)) s
      called_by true request is =
          let client = client_there c.kernels s.kernels (kernel - 1) h.kinds is in
          Called copy.tx message.from request client.0 refl client.1 is (ordered_after first (Deliver number Once) h.ordered)
          (handed (But copy.tx) (λ one k off. k) (λ found same here k off. absurd (true≢false (sym here ∙ off)))) h.kinds
      called_by false request is =
          Plain (still (handed Settled (λ one k. k) (λ found same here k. settled_elsewhere copy.to found (subst (λ n. serves_none (slice_get c.kernels (n - 1)) ≡ false) (sym goes) is) k)))

      asked_with : (body : Request) → message.body ≡ bodies.Request body → Hand kernel (inputs.Request copy.tx message.from body) (after first (Deliver number Once)) s
      asked_with (requests.Callback request) says = called_by (serves_none (slice_get c.kernels (kernel - 1))) request refl
      asked_with body says = Plain (other_asked body says refl)

    dropped : (tx : TxNo) (act : Act) (first : Machine) (s : State) → (after first act).unfinished ≡ less (is_call tx) first.unfinished → Stands first s → Stands (after first act) s
    dropped tx act first s is h = record { ordered = ordered_after first act h.ordered; calls = subst AllSettled (sym is) (each_without Settled (is_call tx) first.unfinished h.calls); kinds = h.kinds }

    deeds : (first : Machine) → Turns faults asked c kernel first Stands (Hand kernel)
    deeds first = record {
      same = λ machine s t e h. record { ordered = h.ordered; calls = h.calls; kinds = subst (λ (states : List KernelState). AreKinds c.kernels states) (sym e) h.kinds };
      images = λ machine pid image s h. record { ordered = h.ordered; calls = h.calls; kinds = kinds_image c kernel pid image s h.kinds };
      own = λ input machine s is h. Plain h;
      passes = λ number copy given s flies off h. record {
        ordered = ordered_after first (Deliver number given) h.ordered;
        calls = subst AllSettled (sym (passed_calls first number copy given flies off)) h.calls;
        kinds = h.kinds;
      };
      asks = λ number copy call message body s flies goes news there reads says h. asked_with first number copy call message s flies goes news there reads h body says;
      asks_none = λ number copy call message body s flies goes news there reads says h. asks_nothing first number copy call message s flies goes news there reads h body says;
      replies = λ number copy call reply message body s flies goes news there told reads says h. Plain (dropped copy.tx (Deliver number Once) first s (replied_calls first number copy Once flies news) h);
      replies_none = λ number copy call reply message body s flies goes news there told reads says h. dropped copy.tx (Deliver number Once) first s (replied_calls first number copy Once flies news) h;
      fires = λ tx call sent s there off h. record {
        ordered = ordered_after first (Expire tx sent) h.ordered;
        calls = subst AllSettled (sym (tried_calls first tx call sent there off)) (each_kept Settled (is_call tx) tried settled_tried first.unfinished h.calls);
        kinds = h.kinds;
      };
      ends = λ tx call s there from is h. Plain (dropped tx (Expire tx []) first s (given_up_calls first tx call [] there is) h);
      takes = λ input said old new s t so hand. took input said old new s t so hand;
      silent = λ machine tx s h. record {
        ordered = ordered_after machine (Silence tx kernel) h.ordered;
        calls = each_kept Settled (is_call tx) (further kernel Silent) (settled_silent kernel) machine.unfinished h.calls;
        kinds = h.kinds;
      };
    }

pub settled_reached : {L : Type 0} (faults asked : L → ℕ → ℕ → ℕ) (c : Description) (begun : L) (now : At L) → Reached faults asked c begun now → Stands c now.wire.machine now.state
settled_reached {L} faults asked c begun now reached =
    of_reached faults asked c begun (Stands c) (λ kernel. Hand c kernel)
    (λ first b. subst (λ (machine : Machine). Stands c machine first.state) (sym b.idles) (record { ordered = omega arith; calls = tt; kinds = kinds_begun c 1 c.kernels first.state.kernels b.boots.kernels_are }))
    (λ kernel low old before. deeds c faults asked kernel old.wire.machine) now reached
