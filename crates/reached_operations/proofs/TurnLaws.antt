-- A turn of a kernel, over a wire that goes on, for any fact of clients and of the wire.
use Rattle.std.proofs.Common.{arith, ◌≡◌, ℕ, zero, suc, ◌+◌, ◌-◌, ◌≤◌, ◌<◌, ◌==◌, Bool, true, false, ◌&&◌, cond, List, [], ◌∷◌, length, slice_get, slice_set, Option, Some, None, refl, sym, ap, ◌∙◌, subst}
use Rattle.std.proofs.lemmas.Bool.{and_parts, eqb-true}
use Rattle.sprite_ids.specs.declared.CopyNo.{CopyNo}
use Rattle.sprite_ids.specs.declared.TxNo.{TxNo}
use Rattle.sprite_ids.proofs.ListLaws.{some_is}
use Rattle.process_machine.specs.Machine as processes
use Rattle.process_machine.specs.declared.BurstEnd.{BurstEnd}
use Rattle.process_machine.specs.declared.BurstEnd.TheVariants as burst_ends
use Rattle.process_machine.specs.declared.Call as process_calls
use Rattle.kernel_rpc.specs.declared.call.Arrival.{Arrival}
use Rattle.kernel_rpc.specs.declared.call.Arrival.TheVariants.{FirstRequest, FirstReply, AskedAgain, Past}
use Rattle.kernel_rpc.specs.declared.call.Call.{Call}
use Rattle.kernel_rpc.specs.declared.Expired.{Expired}
use Rattle.kernel_rpc.specs.declared.Expired.TheVariants as expired
use Rattle.kernel_rpc.specs.declared.PacketCopy.{PacketCopy}
use Rattle.kernel_rpc.specs.Histories.{reached}
use Rattle.kernel_rpc.specs.Machine.{Machine, arrival, call_of, copy_of, is_last, may_be_silent, may_expire}
use Rattle.kernel_rpc.specs.Runs.{Act, Deliver, Expire, Silence, after, is_first_reply}
use Rattle.kernel_rpc.specs.Sound.{Wired}
use Rattle.kernel_rpc.specs.Steps.{IsStep}
use Rattle.kernel_rpc.proofs.ArrivalLaws.{first_reply}
use Rattle.packet_bodies.specs.declared.Body.{Body}
use Rattle.packet_bodies.specs.declared.Body.TheVariants as bodies
use Rattle.packet_bodies.specs.declared.ReplyBody.{ReplyBody}
use Rattle.kernel_steps.specs.declared.Input.{Input}
use Rattle.kernel_steps.specs.declared.Input.TheVariants as inputs
use Rattle.kernel_steps.specs.declared.Out.{Out}
use Rattle.kernel_steps.specs.declared.Sending.{Sending}
use Rattle.kernel_steps.specs.Outs.{started}
use Rattle.unix_calls.specs.declared.Description.{Description}
use Rattle.unix_calls.specs.declared.Event.TheVariants as events
use Rattle.client_homes.specs.declared.ClientProcs.{ClientProcs}
use Rattle.client_procs.specs.Readers.{with_image}
use Rattle.client_procs.specs.Steps.{client_step}
use Rattle.cluster_wire.specs.Arriving.{Brings, SilentIf, asks_prefix, copy_to, given_in, only_to, request_in}
use Rattle.cluster_wire.specs.Firing.{Fires, is_from, is_last_in, may_fire}
use Rattle.cluster_wire.specs.Goings.{next_of}
use Rattle.cluster_wire.specs.Ran.{EachDone}
use Rattle.cluster_wire.specs.Replying.{IsAnswer, goes_back}
use Rattle.cluster_wire.specs.declared.Arrived.{Arrived}
use Rattle.cluster_wire.specs.declared.Arrived.TheVariants as arrived
use Rattle.cluster_wire.specs.declared.Said.{Said}
use Rattle.cluster_kernels.specs.declared.KernelState.{KernelState}
use Rattle.cluster_kernels.specs.declared.KernelState.TheVariants as kernels
use Rattle.cluster_kernels.specs.declared.State.{State}
use Rattle.cluster_kernels.specs.Kernels.{image_put, kernel_step}
use Rattle.cluster_kernels.specs.States.{count_at, image_put_at, kernel_at, noted_step, put_image, stepped, stepped_by}
use Rattle.cluster_steps.specs.Steps.{GoesOut, TakesSo}
use Rattle.cluster_choices.specs.declared.Choice.{Choice}
use Rattle.cluster_choices.specs.declared.Choice.TheVariants as choices
use Rattle.cluster_choices.specs.Acts.{Comes, Expires, FiredAs, Given, Happens, delivery}
use Rattle.cluster_bursts.specs.declared.Burst.{Burst}
use Rattle.cluster_bursts.specs.declared.BurstOutcome.{BurstOutcome}
use Rattle.cluster_bursts.specs.declared.BurstOutcome.TheVariants as outcome
use Rattle.cluster_bursts.specs.declared.Job.{Job}
use Rattle.cluster_bursts.specs.Bursts.{EndsAs, GoesOn, begun_by, came_to, issued, job_at, recorded}
use Rattle.sprite_cluster.specs.Everywhere.{OfAll}
use Rattle.sprite_cluster.specs.Steps.{begun_turn}
use Rattle.sprite_cluster.specs.Reached.{At, Began, Change, Chose, Goes, Lost, Took}
use Rattle.sprite_cluster.proofs.KernelLaws.{all_at, all_weaken, one_at}
use Rattle.reached_clients.specs.Clients.{OfClient}
use Rattle.operation_calls.specs.Requests.{IsSent, Wanted}
use Rattle.reached_operations.proofs.CallLaws.{IsAsked, IsFair, Went, WentOn, answers_begun, answers_on, asked_on, begins_many, begins_on, on_through, sends_ask, went_after}
use Rattle.reached_operations.proofs.WireLaws.{Good, Stays, StaysBut, is_reply, reply_home, stays_come, stays_fire, stays_last, stays_reply, stays_silent}

-- ---- what comes from a kernel itself, and what it says

abbrev pub IsHere : Input → Type 0
IsHere (inputs.Issued pid number call) = Unit {0}
IsHere (inputs.Due file block) = Unit {0}
IsHere (inputs.PageNeeded pid page) = Unit {0}
IsHere input = ⊥

here_issued : (o : Option ℕ) (pid : ℕ) (call : process_calls.Call) (input : Input) → issued pid call o ≡ Some input → IsHere input
here_issued None pid call input e = absurd (cc)
here_issued (Some number) pid call input e = subst IsHere (some_is (inputs.Issued pid (number + 1) call) input e) tt

here_came : (stop : BurstEnd) (kernel : ℕ) (b : Burst) (s : State) (input : Input) → came_to kernel b stop s ≡ Some input → IsHere input
here_came burst_ends.Call kernel b s input e = here_issued _ b.pid _ input e
here_came burst_ends.BadStep kernel b s input e = here_issued _ b.pid _ input e
here_came (burst_ends.PageNeeded page) kernel b s input e = subst IsHere (some_is (inputs.PageNeeded b.pid page) input e) tt
here_came burst_ends.Limit kernel b s input e = absurd (cc)

-- a remote call of a kernel that has just ended, with which nothing is done yet, where there is one
abbrev pub Ended : Type 0
Ended = Option (ℕ × TxNo)

-- that with which an input comes, and what comes
abbrev pub hand_of : ℕ → Input → Ended
hand_of kernel (inputs.Replied tx source body) = Some (kernel, tx)
hand_of kernel (inputs.GaveUp tx) = Some (kernel, tx)
hand_of kernel input = None

abbrev pub hand_in : ℕ → Arrived → Ended
hand_in kernel (arrived.Message input) = hand_of kernel input
hand_in kernel what = None

here_none : (kernel : ℕ) (input : Input) → IsHere input → hand_of kernel input ≡ None
here_none kernel (inputs.Issued pid number call) here = refl
here_none kernel (inputs.Due file block) here = refl
here_none kernel (inputs.PageNeeded pid page) here = refl
here_none kernel (inputs.Request tx source body) here = refl
here_none kernel (inputs.Replied tx source body) here = absurd here
here_none kernel (inputs.GaveUp tx) here = absurd here

-- what a step of a kernel says went out: each call of it is unfinished and asks what was sent, and so many more were begun
pub record WentOut (kernel : ℕ) (old new : Machine) (sends : List Sending) : Type 0 where
  pub on : WentOn old new
  pub asked : (wanted : Wanted) (tx : TxNo) → IsFair wanted → IsSent (old.begun + 1) sends tx wanted → IsAsked kernel wanted new tx
  pub begun : new.begun ≡ old.begun + length sends

-- a fact of clients and of the wire, also where a call of a kernel has just ended: it stays as the wire goes on; where a call of a kernel ends, it
-- does but for that call, and for others anyhow; and steps keep it where what is taken is such
pub record Bears (F : Ended → Machine → ℕ → ClientProcs → Type 0) (Such : Input → ClientProcs → Type 0) : Type 0 where
  pub grows : (hand : Ended) (old new : Machine) (kernel : ℕ) (s : ClientProcs) → WentOn old new → F hand old kernel s → F hand new kernel s
  pub ends : (owner : ℕ) (tx : TxNo) (call : Call) (old new : Machine) (kernel : ℕ) (s : ClientProcs) → Went old new → StaysBut tx old new → call_of old tx ≡ Some call → call.from ≡ owner → F None old kernel s → F (Some (owner, tx)) new kernel s
  pub others : (owner : ℕ) (tx : TxNo) (machine : Machine) (kernel : ℕ) (s : ClientProcs) → (kernel ≡ owner → ⊥) → F (Some (owner, tx)) machine kernel s → F None machine kernel s
  pub steps : (kernel : ℕ) (old new : Machine) (s : ClientProcs) (input : Input) (next : TxNo) (step : ℕ) → next.0 ≡ old.begun + 1 → Such input s → WentOut kernel old new (client_step s input next step).1.sends → F (hand_of kernel input) old kernel s
      → F None new kernel (client_step s input next step).0
  pub images : (machine : Machine) (kernel pid : ℕ) (image : processes.Machine) (s : ClientProcs) → F None machine kernel s → F None machine kernel (with_image pid image s)
  pub here : (input : Input) (s : ClientProcs) → IsHere input → Such input s

-- a reply that comes for the first time is one
abbrev pub RepliesCome : Machine → Type 0
RepliesCome machine = (copy : PacketCopy) (what : Arrived) → arrival machine copy ≡ FirstReply → Brings FirstReply machine copy what → (source : ℕ) × (body : ReplyBody) × (what ≡ arrived.Message (inputs.Replied copy.tx source body))

-- ---- lists of kernels

module _ (G : ℕ → KernelState → Type 0) where
  -- what is so of all but the kernel of that number
  abbrev But : ℕ → ℕ → KernelState → Type 0
  But kernel other state = (other ≡ kernel → ⊥) → G other state

  all_above : (states : List KernelState) (first kernel : ℕ) → kernel < first → OfAll (But kernel) first states → OfAll G first states
  all_above [] first kernel low h = tt
  all_above (state ∷ states) first kernel low h = (h.0 (λ same. absurd (omega (arith, low, same))), all_above states (first + 1) kernel (omega (arith, low)) h.1)

  but_set : (states : List KernelState) (first i : ℕ) (state : KernelState) → OfAll (But (first + i)) first states → G (first + i) state → OfAll G first (slice_set states i state)
  but_set [] first i state h k = tt
  but_set (found ∷ states) first zero state h k = let same : first + 0 ≡ first = omega arith in (subst (λ (n : ℕ). G n state) same k, all_above states (first + 1) (first + 0) (omega arith) h.1)
  but_set (found ∷ states) first (suc i) state h k =
      let same : first + suc i ≡ first + 1 + i = omega arith in
      (h.0 (λ is. absurd (omega (arith, is))), but_set states (first + 1) i state (subst (λ (n : ℕ). OfAll (But n) (first + 1) states) same h.1) (subst (λ (n : ℕ). G n state) same k))

  set_at : (kernel : ℕ) (state : KernelState) (states : List KernelState) → 1 ≤ kernel → OfAll (But kernel) 1 states → G kernel state → OfAll G 1 (slice_set states (kernel - 1) state)
  set_at kernel state states low h k =
      let same : kernel ≡ 1 + (kernel - 1) = omega (arith, low) in
      but_set states 1 (kernel - 1) state (subst (λ (n : ℕ). OfAll (But n) 1 states) same h) (subst (λ (n : ℕ). G n state) same k)

  -- a kernel that isn't there
  but_none : (states : List KernelState) (first i : ℕ) → OfAll (But (first + i)) first states → slice_get states i ≡ None → OfAll G first states
  but_none [] first i h none = tt
  but_none (found ∷ states) first zero h none = absurd (cc)
  but_none (found ∷ states) first (suc i) h none =
      let same : first + suc i ≡ first + 1 + i = omega arith in
      (h.0 (λ is. absurd (omega (arith, is))), but_none states (first + 1) i (subst (λ (n : ℕ). OfAll (But n) (first + 1) states) same h.1) none)

  none_at : (kernel : ℕ) (states : List KernelState) → 1 ≤ kernel → OfAll (But kernel) 1 states → slice_get states (kernel - 1) ≡ None → OfAll G 1 states
  none_at kernel states low h none = let same : kernel ≡ 1 + (kernel - 1) = omega (arith, low) in but_none states 1 (kernel - 1) (subst (λ (n : ℕ). OfAll (But n) 1 states) same h) none

module _ (c : Description) (F : Ended → Machine → ℕ → ClientProcs → Type 0) (Such : Input → ClientProcs → Type 0) (bears : Bears F Such) where
  abbrev Of : Ended → Machine → ℕ → KernelState → Type 0
  Of hand machine = OfClient (F hand machine)

  pub record Mid (hand : Ended) (machine : Machine) (s : State) : Type 0 where
    pub good : Good machine
    pub clients : OfAll (Of hand machine) 1 s.kernels

  -- between two changes
  abbrev pub Stands : Machine → State → Type 0
  Stands machine s = Mid None machine s

  -- what the kernel of that number takes is such, where it is a client
  abbrev pub SuchAt : ℕ → Input → State → Type 0
  SuchAt kernel input s = (client : ClientProcs) → kernel_at kernel s ≡ Some (kernels.Client client) → Such input client

  kernel_grows : (hand : Ended) (old new : Machine) → WentOn old new → (kernel : ℕ) (state : KernelState) → Of hand old kernel state → Of hand new kernel state
  kernel_grows hand old new w kernel (kernels.Client client) h = bears.grows hand old new kernel client w h
  kernel_grows hand old new w kernel (kernels.Server server) h = tt

  stands_on : (hand : Ended) (old new : Machine) (s : State) → WentOn old new → Mid hand old s → Mid hand new s
  stands_on hand old new s w h = record { good = w.went.good; clients = all_weaken (Of hand old) (Of hand new) (kernel_grows hand old new w) s.kernels 1 h.clients }

  -- a call of a kernel ends
  kernel_ends : (owner : ℕ) (tx : TxNo) (call : Call) (old new : Machine) → Went old new → StaysBut tx old new → call_of old tx ≡ Some call → call.from ≡ owner → (kernel : ℕ) (state : KernelState) → Of None old kernel state → Of (Some (owner, tx)) new kernel state
  kernel_ends owner tx call old new w stays found from kernel (kernels.Client client) h = bears.ends owner tx call old new kernel client w stays found from h
  kernel_ends owner tx call old new w stays found from kernel (kernels.Server server) h = tt

  stands_ended : (owner : ℕ) (tx : TxNo) (call : Call) (old new : Machine) (s : State) → Went old new → StaysBut tx old new → call_of old tx ≡ Some call → call.from ≡ owner → Stands old s → Mid (Some (owner, tx)) new s
  stands_ended owner tx call old new s w stays found from h = record { good = w.good; clients = all_weaken (Of None old) (Of (Some (owner, tx)) new) (kernel_ends owner tx call old new w stays found from) s.kernels 1 h.clients }

  -- kernels stand so whatever is told
  told_stands : (hand : Ended) (machine : Machine) (s t : State) → t.kernels ≡ s.kernels → Mid hand machine s → Mid hand machine t
  told_stands hand machine s t same h = record { good = h.good; clients = subst (OfAll (Of hand machine) 1) (sym same) h.clients }

  -- others have nothing in hand
  put_down : (kernel : ℕ) (input : Input) (machine : Machine) (other : ℕ) (s : ClientProcs) → (other ≡ kernel → ⊥) → F (hand_of kernel input) machine other s → F None machine other s
  put_down kernel (inputs.Replied tx source body) machine other s apart h = bears.others kernel tx machine other s apart h
  put_down kernel (inputs.GaveUp tx) machine other s apart h = bears.others kernel tx machine other s apart h
  put_down kernel (inputs.Request tx source body) machine other s apart h = h
  put_down kernel (inputs.Issued pid number call) machine other s apart h = h
  put_down kernel (inputs.Due file block) machine other s apart h = h
  put_down kernel (inputs.PageNeeded pid page) machine other s apart h = h

  kernel_down : (kernel : ℕ) (input : Input) (machine : Machine) (other : ℕ) (state : KernelState) → Of (hand_of kernel input) machine other state → But (Of None machine) kernel other state
  kernel_down kernel input machine other (kernels.Client client) h apart = put_down kernel input machine other client apart h
  kernel_down kernel input machine other (kernels.Server server) h apart = tt

  all_down : (kernel : ℕ) (input : Input) (machine : Machine) (s : State) → Mid (hand_of kernel input) machine s → OfAll (But (Of None machine) kernel) 1 s.kernels
  all_down kernel input machine s h = all_weaken (Of (hand_of kernel input) machine) (But (Of None machine) kernel) (kernel_down kernel input machine) s.kernels 1 h.clients

  -- what a step says goes out
  goes_out : {L : Type 0} (faults asked : L → ℕ → ℕ → ℕ) (kernel : ℕ) (out : Out) (old new : Wired L) (said : Said) → GoesOut faults asked c kernel out old new said → Good old.machine → WentOut kernel old.machine new.machine out.sends
  goes_out faults asked kernel out old new said g good =
      let one : Machine = reached old.machine g.requests.steps in
      let two : Machine = reached one g.answers.steps in
      let first : WentOn old.machine one = begins_on c kernel out.sends old.machine g.requests.steps g.requests.each good in
      let there : g.between.machine ≡ one = g.requests.ran.reaches in
      let each = subst (λ (machine : Machine). EachDone (goes_back kernel) IsAnswer out.answers machine g.answers.steps) there g.answers.each in
      let second : WentOn one two = answers_on kernel out.answers one g.answers.steps each first.went.good in
      let ends : new.machine ≡ two = g.answers.ran.reaches ∙ ap (λ (machine : Machine). reached machine g.answers.steps) there in
      subst (λ (machine : Machine). WentOut kernel old.machine machine out.sends) (sym ends) (record {
        on = on_through old.machine one two first second;
        asked = λ wanted tx fair is. asked_on kernel wanted one two tx second (sends_ask c kernel wanted fair (old.machine.begun + 1) is.at out.sends old.machine g.requests.steps is.sending tx g.requests.each good refl is.there is.number is.asks is.tries is.to);
        begun = answers_begun kernel out.answers one g.answers.steps each ∙ begins_many c kernel out.sends old.machine g.requests.steps g.requests.each;
      })

  -- a kernel that is there, behind its step
  kernel_steps : (kernel : ℕ) (old new : Machine) (state : KernelState) (input : Input) (next : TxNo) (step : ℕ) → next.0 ≡ old.begun + 1 → ((client : ClientProcs) → state ≡ kernels.Client client → Such input client) → WentOut kernel old new (kernel_step state input next step).1.sends → Of (hand_of kernel input) old kernel state
      → Of None new kernel (kernel_step state input next step).0
  kernel_steps kernel old new (kernels.Client client) input next step number such w h = bears.steps kernel old new client input next step number (such client refl) w h
  kernel_steps kernel old new (kernels.Server server) input next step number such w h = tt

  took_by : {L : Type 0} (faults asked : L → ℕ → ℕ → ℕ) (o : Option KernelState) (kernel : ℕ) (input : Input) (said : Said) (old new : Wired L) (s : State) → kernel_at kernel s ≡ o → 1 ≤ kernel → said.next ≡ next_of old.machine → SuchAt kernel input s → GoesOut faults asked c kernel (stepped_by kernel o input said.next s).1 old new said → Mid (hand_of kernel input) old.machine s
      → Stands new.machine (stepped_by kernel o input said.next s).0
  took_by faults asked None kernel input said old new s there low next such g h =
      let w : WentOut kernel old.machine new.machine (started said.next).sends = goes_out faults asked kernel (started said.next) old new said g h.good in
      let on : Mid (hand_of kernel input) new.machine s = stands_on (hand_of kernel input) old.machine new.machine s w.on h in
      record { good = on.good; clients = none_at (Of None new.machine) kernel s.kernels low (all_down kernel input new.machine s on) there }
  took_by faults asked (Some found) kernel input said old new s there low next such g h =
      let made : KernelState × Out = kernel_step found input said.next (count_at s.steps kernel) in
      let w : WentOut kernel old.machine new.machine made.1.sends = goes_out faults asked kernel made.1 old new said g h.good in
      let on : Mid (hand_of kernel input) new.machine s = stands_on (hand_of kernel input) old.machine new.machine s w.on h in
      record {
        good = on.good;
        clients = set_at (Of None new.machine) kernel made.0 s.kernels low (all_down kernel input new.machine s on)
            (kernel_steps kernel old.machine new.machine found input said.next (count_at s.steps kernel) (ap (λ (tx : TxNo). tx.0) next) (λ client e. such client (there ∙ ap Some e)) w (one_at (Of (hand_of kernel input) old.machine) kernel found s.kernels low h.clients there));
      }

  -- a process's instructions
  image_kept : (machine : Machine) (kernel pid : ℕ) (image : processes.Machine) (state : KernelState) → Of None machine kernel state → Of None machine kernel (image_put pid image state)
  image_kept machine kernel pid image (kernels.Client client) h = bears.images machine kernel pid image client h
  image_kept machine kernel pid image (kernels.Server server) h = tt

  image_stands : (o : Option KernelState) (machine : Machine) (kernel pid : ℕ) (image : processes.Machine) (s : State) → kernel_at kernel s ≡ o → 1 ≤ kernel → Stands machine s → Stands machine (image_put_at kernel pid image o s)
  image_stands None machine kernel pid image s there low h = h
  image_stands (Some found) machine kernel pid image s there low h = record {
    good = h.good;
    clients = all_at (Of None machine) kernel (image_put pid image found) s.kernels low h.clients (image_kept machine kernel pid image found (one_at (Of None machine) kernel found s.kernels low h.clients there));
  }

  module _ {L : Type 0} (faults asked : L → ℕ → ℕ → ℕ) (kernel : ℕ) (low : 1 ≤ kernel) where
    took_so : (input : Input) (said : Said) (old new : Wired L) (s t : State) → SuchAt kernel input s → TakesSo faults asked c kernel input said old new s t → Mid (hand_of kernel input) old.machine s → Stands new.machine t
    took_so input said old new s t such so h =
        told_stands None new.machine (stepped kernel input said.next s).0 t (ap (λ (u : State). u.kernels) so.state) (took_by faults asked (kernel_at kernel s) kernel input said old new s refl low so.next such so.goes_out h)

    took_here : (input : Input) (said : Said) (old new : Wired L) (s t : State) → IsHere input → TakesSo faults asked c kernel input said old new s t → Stands old.machine s → Stands new.machine t
    took_here input said old new s t here so h = took_so input said old new s t (λ client e. bears.here input client here) so (subst (λ (hand : Ended). Mid hand old.machine s) (sym (here_none kernel input here)) h)

    -- an act of the wire with which no call ends
    step_stands : (hand : Ended) (old new : Wired L) (act : Act) (s : State) → Stays old.machine (after old.machine act) → IsStep faults asked old act new → Mid hand old.machine s → Mid hand new.machine s
    step_stands hand old new act s stays step h = subst (λ (machine : Machine). Mid hand machine s) (sym step.1) (stands_on hand old.machine (after old.machine act) s (record { went = went_after old.machine act h.good; stays = stays }) h)

    silenced : (b : Bool) (tx : TxNo) (old new : Wired L) (s : State) → SilentIf faults asked b tx kernel old new → Stands old.machine s → Stands new.machine s
    silenced true tx old new s step h = step_stands None old new (Silence tx kernel) s (stays_silent old.machine tx kernel) step h
    silenced false tx old new s same h = subst (λ (w : Wired L). Stands w.machine s) (sym same) h

    given : (what : Arrived) (tx : TxNo) (old new : Wired L) (s t : State) → ((input : Input) → what ≡ arrived.Message input → SuchAt kernel input s) → Given faults asked c kernel tx what old new s t → Mid (hand_in kernel what) old.machine s → Stands new.machine t
    given (arrived.Message input) tx old new s t such g h =
        silenced (asks_prefix input && may_be_silent g.between.machine tx kernel) tx g.between new t g.silent (took_so input g.said old g.between s t (such input refl) g.takes h)
    given (arrived.Again from to drawn) tx old new s t such g h = subst (λ (w : Wired L). Stands w.machine t) (sym g.0) (told_stands None old.machine s t (ap (λ (u : State). u.kernels) g.1) h)
    given arrived.Old tx old new s t such g h = subst (λ (w : Wired L). Stands w.machine t) (sym g.0) (subst (Stands old.machine) (sym g.1) h)

    -- a copy comes
    request_none : (tx : TxNo) (from : ℕ) (body : Body) → hand_in kernel (request_in tx from body) ≡ None
    request_none tx from (bodies.Request body) = refl
    request_none tx from (bodies.Reply body) = refl

    come_still : (a : Arrival) (number : CopyNo) (copy : PacketCopy) (what : Arrived) (old new : Wired L) (s : State) → copy_of old.machine number ≡ Some copy → arrival old.machine copy ≡ a → is_first_reply a ≡ false → hand_in kernel what ≡ None → IsStep faults asked old (Deliver number (given_in what)) new → Stands old.machine s → Mid (hand_in kernel what) new.machine s
    come_still a number copy what old new s flies is off none step h =
        subst (λ (hand : Ended). Mid hand new.machine s) (sym none) (step_stands None old new (Deliver number (given_in what)) s (stays_come old.machine number (given_in what) copy flies (ap is_first_reply is ∙ off)) step h)

    come_reply : (number : CopyNo) (copy : PacketCopy) (what : Arrived) (old new : Wired L) (s : State) → copy_of old.machine number ≡ Some copy → copy.to ≡ kernel → arrival old.machine copy ≡ FirstReply → Brings FirstReply old.machine copy what → RepliesCome old.machine → IsStep faults asked old (Deliver number (given_in what)) new → Stands old.machine s
        → Mid (hand_in kernel what) new.machine s
    come_reply number copy what old new s flies goes is brings replies step h =
        let got = first_reply copy (call_of old.machine copy.tx) is in
        let call : Call = got.0 in
        let came = replies copy what is brings in
        let home : call.from ≡ kernel = sym (reply_home old.machine number copy call h.good flies got.1 (is_reply copy (call_of old.machine copy.tx) is)) ∙ goes in
        let act : Act = Deliver number (given_in what) in
        subst (λ (machine : Machine). Mid (hand_in kernel what) machine s) (sym step.1)
        (subst (λ (w : Arrived). Mid (hand_in kernel w) (after old.machine act) s) (sym came.2)
        (stands_ended kernel copy.tx call old.machine (after old.machine act) s (went_after old.machine act h.good) (stays_reply old.machine number (given_in what) copy flies) got.1 home h))

    come_so : (a : Arrival) (number : CopyNo) (copy : PacketCopy) (what : Arrived) (old new : Wired L) (s : State) → copy_of old.machine number ≡ Some copy → copy.to ≡ kernel → arrival old.machine copy ≡ a → Brings a old.machine copy what → RepliesCome old.machine → IsStep faults asked old (Deliver number (given_in what)) new → Stands old.machine s
        → Mid (hand_in kernel what) new.machine s
    come_so FirstRequest number copy what old new s flies goes is brings replies step h = come_still FirstRequest number copy what old new s flies is refl (ap (hand_in kernel) brings.2 ∙ request_none copy.tx brings.0.from brings.0.body) step h
    come_so FirstReply number copy what old new s flies goes is brings replies step h = come_reply number copy what old new s flies goes is brings replies step h
    come_so AskedAgain number copy what old new s flies goes is brings replies step h = come_still AskedAgain number copy what old new s flies is refl (ap (hand_in kernel) brings.1) step h
    come_so Past number copy what old new s flies goes is brings replies step h = come_still Past number copy what old new s flies is refl (ap (hand_in kernel) brings) step h

    flies_to : (o : Option PacketCopy) (copy : PacketCopy) → only_to kernel o ≡ Some copy → (o ≡ Some copy) × (copy.to ≡ kernel)
    flies_to None copy e = absurd (cc)
    flies_to (Some found) copy e = by (found.to == kernel) refl e
      where
        by : (b : Bool) → (found.to == kernel) ≡ b → cond b (Some found) None ≡ Some copy → (Some found ≡ Some copy) × (copy.to ≡ kernel)
        by true is same = (same, ap (λ (one : PacketCopy). one.to) (sym (some_is found copy same)) ∙ eqb-true found.to kernel is)
        by false off same = absurd (cc)

    came : (o : Option PacketCopy) (number : CopyNo) (old new : Wired L) (s t : State) → copy_to kernel old.machine number ≡ o → RepliesCome old.machine → ((copy : PacketCopy) (input : Input) → o ≡ Some copy → Brings (arrival old.machine copy) old.machine copy (arrived.Message input) → SuchAt kernel input s) → Comes faults asked c kernel number o old new s t
        → Stands old.machine s → Stands new.machine t
    came None number old new s t e replies such g h = subst (λ (w : Wired L). Stands w.machine t) (sym g.0) (subst (Stands old.machine) (sym g.1) h)
    came (Some copy) number old new s t e replies such g h =
        let flies = flies_to (copy_of old.machine number) copy e in
        let noted : State = noted_step kernel (delivery copy) s in
        given g.came copy.tx g.between new noted t (λ input f. such copy input refl (subst (λ (what : Arrived). Brings (arrival old.machine copy) old.machine copy what) f g.arrives.brings)) g.given
        (told_stands (hand_in kernel g.came) g.between.machine s noted refl (come_so (arrival old.machine copy) number copy g.came old g.between s flies.0 flies.1 refl g.arrives.brings replies g.arrives.step h))

    -- ---- a timer fires

    last_of : (o : Option Call) (b : Bool) → b ≡ is_last_in o → is_from kernel o ≡ true → (call : Call) × (o ≡ Some call) × (is_last call ≡ b) × (call.from ≡ kernel)
    last_of (Some call) b e from = (call, refl, sym e, eqb-true call.from kernel from)
    last_of None b e from = absurd (cc)

    fired_so : (what : Expired) (tx : TxNo) (old between new : Wired L) (s t : State) → is_from kernel (call_of old.machine tx) ≡ true → ((before now : ℕ) → what ≡ expired.GivenUp before now → SuchAt kernel (inputs.GaveUp tx) s) → Fires faults asked kernel tx what old between → FiredAs faults asked c kernel tx what between new s t → Stands old.machine s
        → Stands new.machine t
    fired_so (expired.Resent fates) tx old between new s t from such fires g h =
        let got = last_of (call_of old.machine tx) false fires.last from in
        let on : Stands between.machine s = step_stands None old between (Expire tx fates) s (stays_fire old.machine tx fates got.0 got.1 got.2) fires.step h in
        subst (λ (w : Wired L). Stands w.machine t) (sym g.0) (told_stands None between.machine s t (ap (λ (u : State). u.kernels) g.1) on)
    fired_so (expired.GivenUp before now) tx old between new s t from such fires g h =
        let got = last_of (call_of old.machine tx) true fires.last from in
        let act : Act = Expire tx [] in
        let ended : Mid (Some (kernel, tx)) between.machine s =
        subst (λ (machine : Machine). Mid (Some (kernel, tx)) machine s) (sym fires.step.1)
        (stands_ended kernel tx got.0 old.machine (after old.machine act) s (went_after old.machine act h.good) (stays_last old.machine tx [] got.0 got.1) got.1 got.3 h) in
        took_so (inputs.GaveUp tx) g.said between new (noted_step kernel (events.Expire tx true) s) t (such before now refl) g.takes (told_stands (Some (kernel, tx)) between.machine s (noted_step kernel (events.Expire tx true) s) refl ended)

    expires : (b : Bool) (tx : TxNo) (old new : Wired L) (s t : State) → may_fire kernel old.machine tx ≡ b → ((before now : ℕ) (between : Wired L) → Fires faults asked kernel tx (expired.GivenUp before now) old between → SuchAt kernel (inputs.GaveUp tx) s) → Expires faults asked c kernel tx b old new s t → Stands old.machine s → Stands new.machine t
    expires false tx old new s t e such g h = subst (λ (w : Wired L). Stands w.machine t) (sym g.0) (subst (Stands old.machine) (sym g.1) h)
    expires true tx old new s t e such g h =
        fired_so g.what tx old g.between new s t (and_parts (is_from kernel (call_of old.machine tx)) (may_expire old.machine tx) e).0
        (λ before now f. such before now g.between (subst (λ (what : Expired). Fires faults asked kernel tx what old g.between) f g.fires)) g.fires g.then_so h

    -- what comes by a choice is such: whatever a copy brings that is in flight to the kernel, and that a call of it is given up
    abbrev pub Brought : Choice → Wired L → State → Type 0
    Brought (choices.Deliver number) old s = (copy : PacketCopy) (input : Input) → copy_to kernel old.machine number ≡ Some copy → Brings (arrival old.machine copy) old.machine copy (arrived.Message input) → SuchAt kernel input s
    Brought (choices.Expire tx) old s = (before now : ℕ) (between : Wired L) → Fires faults asked kernel tx (expired.GivenUp before now) old between → SuchAt kernel (inputs.GaveUp tx) s
    Brought (choices.WriteBack file block) old s = Unit {0}

    happened : (choice : Choice) (old new : Wired L) (s t : State) → RepliesCome old.machine → Brought choice old s → Happens faults asked c kernel choice old new s t → Stands old.machine s → Stands new.machine t
    happened (choices.Deliver number) old new s t replies such g h = came (copy_to kernel old.machine number) number old new s t refl replies such g h
    happened (choices.Expire tx) old new s t replies such g h = expires (may_fire kernel old.machine tx) tx old new s t refl such g h
    happened (choices.WriteBack file block) old new s t replies such g h = took_here (inputs.Due file block) g.said old new s t tt g.takes h

    -- bursts

    went_on : (o : Option Input) (what : BurstOutcome) (old new : Wired L) (s t : State) → ((input : Input) → o ≡ Some input → IsHere input) → GoesOn faults asked c kernel o what old new s t → Stands old.machine s → Stands new.machine t
    went_on (Some input) (outcome.Took said) old new s t here g h = took_here input said old new s t (here input refl) g h
    went_on (Some input) outcome.Done old new s t here g h = absurd g
    went_on (Some input) outcome.Stale old new s t here g h = absurd g
    went_on None outcome.Done old new s t here g h = subst (λ (w : Wired L). Stands w.machine t) (sym g.0) (subst (Stands old.machine) (sym g.1) h)
    went_on None (outcome.Took said) old new s t here g h = absurd g
    went_on None outcome.Stale old new s t here g h = absurd g

    counted : (what : BurstOutcome) (b : Burst) (old new : Wired L) (s t : State) → GoesOn faults asked c kernel (came_to kernel b b.end (recorded kernel b s)) what old new (put_image kernel b.pid b.to (recorded kernel b s)) t → Stands old.machine s → Stands new.machine t
    counted what b old new s t g h =
        let there : State = recorded kernel b s in
        went_on (came_to kernel b b.end there) what old new (put_image kernel b.pid b.to there) t (here_came b.end kernel b there) g
        (image_stands (kernel_at kernel there) old.machine kernel b.pid b.to there refl low (told_stands None old.machine s there refl h))

    ended : (what : BurstOutcome) (b : Burst) (old new : Wired L) (s t : State) → EndsAs faults asked c kernel b what old new s t → Stands old.machine s → Stands new.machine t
    ended outcome.Stale b old new s t g h = subst (λ (w : Wired L). Stands w.machine t) (sym g.1) (told_stands None old.machine s t (ap (λ (u : State). u.kernels) g.2) h)
    ended outcome.Done b old new s t g h = counted outcome.Done b old new s t g.1 h
    ended (outcome.Took said) b old new s t g h = counted (outcome.Took said) b old new s t g.1 h

    brought_begun : (choice : Choice) (old : Wired L) (s : State) → Brought choice old s → Brought choice old (begun_turn s)
    brought_begun (choices.Deliver number) old s such = such
    brought_begun (choices.Expire tx) old s such = such
    brought_begun (choices.WriteBack file block) old s such = tt

  begun_stands : (o : Option Job) (machine : Machine) (kernel : ℕ) (s : State) → Stands machine s → Stands machine (begun_by kernel o s)
  begun_stands None machine kernel s h = h
  begun_stands (Some job) machine kernel s h = told_stands None machine s (begun_by kernel (Some job) s) refl h

  -- ---- a change

  module _ {L : Type 0} (faults asked : L → ℕ → ℕ → ℕ) where
    abbrev pub At_stands : At L → Type 0
    At_stands at = Stands at.wire.machine at.state

    -- what comes by it is such
    abbrev pub ChangeBrings : Change → At L → Type 0
    ChangeBrings (Chose kernel choice) old = (low : 1 ≤ kernel) → Brought faults asked kernel low choice old.wire old.state
    ChangeBrings change old = Unit {0}

    pub changed : (change : Change) (old now : At L) → RepliesCome old.wire.machine → ChangeBrings change old → Goes faults asked c change old now → At_stands old → At_stands now
    changed (Chose kernel choice) old now replies such goes h = told_stands None now.wire.machine goes.changes.turn now.state (ap (λ (s : State). s.kernels) goes.changes.stands)
        (happened faults asked kernel goes.low choice old.wire now.wire (begun_turn old.state) goes.changes.turn replies (brought_begun faults asked kernel goes.low choice old.wire old.state (such goes.low)) goes.changes.happens (told_stands None old.wire.machine old.state (begun_turn old.state) refl h))
    changed (Began kernel) old now replies such goes h = subst (Stands now.wire.machine) (sym goes.changes.begun)
        (begun_stands (job_at c kernel old.state) now.wire.machine kernel old.state (subst (λ (wire : Wired L). Stands wire.machine old.state) (sym goes.changes.same_wire) h))
    changed (Took kernel b) old now replies such goes h = told_stands None now.wire.machine goes.changes.turn now.state (ap (λ (s : State). s.kernels) goes.changes.stands)
        (ended faults asked kernel goes.low goes.changes.ends.what b old.wire now.wire (begun_turn old.state) goes.changes.turn goes.changes.ends.ends (told_stands None old.wire.machine old.state (begun_turn old.state) refl h))
    changed (Lost kernel b) old now replies such goes h =
        ended faults asked kernel goes.low goes.changes.ends.what b old.wire now.wire (begun_turn old.state) now.state goes.changes.ends.ends (told_stands None old.wire.machine old.state (begun_turn old.state) refl h)
