-- Which calls are kept at each kernel of a cluster, and that a step of it answers the others that it had.
use Rattle.std.proofs.Common.{arith, ◌≡◌, ℕ, zero, suc, ◌+◌, ◌-◌, ◌==◌, ◌≤◌, ◌<◌, ◌⊎◌, inl, inr, Bool, true, false, List, [], ◌∷◌, ◌++◌, length, slice_get, slice_set, Some, refl, sym, ap, subst, ◌∙◌, true≢false}
use Rattle.std.specs.List.{AllByRecursion}
use Rattle.sprite_ids.specs.declared.TxNo.{TxNo}
use Rattle.sprite_ids.specs.Lists.{changed}
use Rattle.sprite_ids.proofs.ListLaws.{each_weaken}
use Rattle.link_plan.specs.declared.Fate.TheVariants.{Once}
use Rattle.process_machine.specs.Machine as processes
use Rattle.kernel_rpc.specs.declared.call.Arrival.TheVariants.{FirstRequest}
use Rattle.kernel_rpc.specs.declared.call.Call.{Call}
use Rattle.kernel_rpc.specs.declared.call.PacketCopy.{PacketCopy}
use Rattle.kernel_rpc.specs.declared.call.Part.TheVariants.{Answered, Silent}
use Rattle.kernel_rpc.specs.Histories.{reached}
use Rattle.kernel_rpc.specs.Machine.{Machine, answered, call_of, delivered_as, holds, is_call, landed, new_call, part_of, with_part}
use Rattle.kernel_rpc.specs.Runs.{Act, Answer, Counts, after}
use Rattle.kernel_rpc.specs.Sound.{Wired}
use Rattle.kernel_rpc.proofs.NumberLaws.{each_changed}
use Rattle.kernel_rpc.proofs.PartLaws.{eq_same}
use Rattle.kernel_rpc.proofs.RunLaws.{Ordered, ordered_after, unfinished_replied}
use Rattle.kernel_steps.specs.declared.Input.{Input}
use Rattle.kernel_steps.specs.declared.Input.TheVariants as inputs
use Rattle.kernel_steps.specs.declared.Out.{Out}
use Rattle.packet_bodies.specs.declared.ReplyBody.{ReplyBody}
use Rattle.packet_bodies.specs.declared.Request.{Request}
use Rattle.unix_calls.specs.declared.Description.{Description}
use Rattle.wire_format.specs.declared.Packet.{Packet}
use Rattle.wire_format.specs.Packets.{spelling}
use Rattle.server_kernel.specs.declared.Asked.{Asked}
use Rattle.server_kernel.specs.declared.Server.{Server}
use Rattle.server_kernel.specs.Steps.{server_step}
use Rattle.kept_requests.specs.Kept.{HasCome, IsOwed, KeepsSuch, WasKept, has_answer}
use Rattle.kept_requests.proofs.ServedLaws.{AnswersIn, Held, InAnswers, InAsking, InWaiting, StandsIn}
use Rattle.kept_requests.proofs.StepLaws.{kept_there, stands_behind, stands_front, step_done, step_keeps}
use Rattle.client_procs.specs.Readers.{with_image}
use Rattle.client_procs.specs.Steps.{client_step}
use Rattle.client_requests.specs.Kept.{IsKept}
use Rattle.client_requests.specs.Requests.{is_left}
use Rattle.cluster_wire.specs.Ran.{EachDone}
use Rattle.cluster_wire.specs.Replying.{IsAnswer, asker, goes_back}
use Rattle.cluster_wire.specs.declared.Said.{Said}
use Rattle.cluster_kernels.specs.declared.KernelState.{KernelState}
use Rattle.cluster_kernels.specs.declared.KernelState.TheVariants as kernels
use Rattle.cluster_kernels.specs.declared.State.{State}
use Rattle.cluster_kernels.specs.Kernels.{image_put, kernel_step}
use Rattle.cluster_kernels.specs.States.{kernel_at}
use Rattle.cluster_steps.specs.Steps.{GoesOut}
use Rattle.sprite_cluster.specs.Everywhere.{OfAll}
use Rattle.reached_domains.specs.Domains.{asked_request}
use Rattle.stall_laws.specs.Stalls.{asked_of}
use Rattle.stall_laws.proofs.ClientLaws.{ClientSo, Fits, client_after, client_handed, client_image, client_owes, client_run, client_takes, has_come, image_keeps, was_kept}
use Rattle.stall_laws.proofs.CallLaws.{Bears, IsQuiet, answer_tx, answers_keep, begins_keep, ordered_run, quiet_keeps}
use Rattle.stall_laws.proofs.ReceiverLaws.{answered_none, fresh_none, held_before}

-- ---- lists of kernels

-- what holds of each kernel but one
module _ (F : ℕ → KernelState → Type 0) where
  abbrev pub But : ℕ → ℕ → KernelState → Type 0
  But other kernel state = (kernel ≡ other → ⊥) → F kernel state

  all_above : (states : List KernelState) (first other : ℕ) → other < first → OfAll (But other) first states → OfAll F first states
  all_above [] first other low h = tt
  all_above (state ∷ states) first other low h = (h.0 (λ same. absurd (omega (arith, low, same))), all_above states (first + 1) other (omega (arith, low)) h.1)

  but_set : (states : List KernelState) (first i : ℕ) (state : KernelState) → OfAll (But (first + i)) first states → F (first + i) state → OfAll F first (slice_set states i state)
  but_set [] first i state h k = tt
  but_set (found ∷ states) first zero state h k = let same : first + 0 ≡ first = omega arith in (subst (λ (n : ℕ). F n state) same k, all_above states (first + 1) (first + 0) (omega arith) h.1)
  but_set (found ∷ states) first (suc i) state h k =
      let same : first + suc i ≡ first + 1 + i = omega arith in
      (h.0 (λ is. absurd (omega (arith, is))), but_set states (first + 1) i state (subst (λ (n : ℕ). OfAll (But n) (first + 1) states) same h.1) (subst (λ (n : ℕ). F n state) same k))

  pub set_at : (kernel : ℕ) (state : KernelState) (states : List KernelState) → 1 ≤ kernel → OfAll (But kernel) 1 states → F kernel state → OfAll F 1 (slice_set states (kernel - 1) state)
  set_at kernel state states low h k =
      let same : kernel ≡ 1 + (kernel - 1) = omega (arith, low) in
      but_set states 1 (kernel - 1) state (subst (λ (n : ℕ). OfAll (But n) 1 states) same h) (subst (λ (n : ℕ). F n state) same k)

  -- what is so of each that is there is so of all
  pub each_there : (states : List KernelState) (first : ℕ) → ((i : ℕ) (state : KernelState) → slice_get states i ≡ Some state → F (first + i) state) → OfAll F first states
  each_there [] first there = tt
  each_there (state ∷ states) first there =
      let same : first + 0 ≡ first = omega arith in
      (subst (λ (n : ℕ). F n state) same (there 0 state refl), each_there states (first + 1) (λ i other e. let next : first + suc i ≡ first + 1 + i = omega arith in subst (λ (n : ℕ). F n other) next (there (suc i) other e)))

pub all_two : (F G H : ℕ → KernelState → Type 0) → ((kernel : ℕ) (state : KernelState) → F kernel state → G kernel state → H kernel state) → (states : List KernelState) (first : ℕ) → OfAll F first states → OfAll G first states → OfAll H first states
all_two F G H both [] first h k = tt
all_two F G H both (state ∷ states) first h k = (both first state h.0 k.0, all_two F G H both states (first + 1) h.1 k.1)

-- each kernel stands at its place
pub all_at_their_places : (states : List KernelState) → OfAll (λ kernel state. slice_get states (kernel - 1) ≡ Some state) 1 states
all_at_their_places states = each_there (λ kernel state. slice_get states (kernel - 1) ≡ Some state) states 1 (λ i state e. let same : i ≡ 1 + i - 1 = omega arith in subst (λ (n : ℕ). slice_get states n ≡ Some state) same e)

pub length_set : (states : List KernelState) (i : ℕ) (state : KernelState) → length (slice_set states i state) ≡ length states
length_set [] i state = refl
length_set (first ∷ states) zero state = refl
length_set (first ∷ states) (suc i) state = ap (λ n. suc n) (length_set states i state)

-- ---- calls that a kernel keeps

-- of which requests it is told that they are kept: at servers, and at clients
pub record Wants : Type 0 where
  pub at_servers : Request → Bool
  pub at_clients : Request → Bool

abbrev pub is_wanted : Wants → KernelState → Request → Bool
is_wanted wants (kernels.Server server) body = wants.at_servers body
is_wanted wants (kernels.Client client) body = wants.at_clients body

-- the kernel keeps it
abbrev pub KeepsIt : KernelState → Asked → Type 0
KeepsIt (kernels.Server server) asked = StandsIn asked (server.asking ++ server.waiting)
KeepsIt (kernels.Client client) asked = IsKept asked.tx client

-- where it comes, the kernel has an answer to it, or doesn't leave it alone
abbrev pub TakesOn : KernelState → Request → Type 0
TakesOn (kernels.Server server) body = has_answer server body ≡ true
TakesOn (kernels.Client client) body = is_left body client ≡ false

-- what is so of all that the kernel keeps
abbrev pub KeepsSo : Machine → KernelState → Type 0
KeepsSo machine (kernels.Server server) = KeepsSuch server
KeepsSo machine (kernels.Client client) = ClientSo machine client

-- a call that the kernel of that number has, and of which such requests are wanted, is kept there, or is in hand
abbrev pub CallKept : Wants → (ℕ → KernelState → Asked → Type 0) → ℕ → KernelState → Call → Type 0
CallKept wants InHand kernel state call =
    (body : Request) → call.owner ≡ kernel → holds (part_of kernel call.receivers) ≡ true → asked_request call.body ≡ Some body → is_wanted wants state body ≡ true
    → KeepsIt state (asked_of call body) ⊎ InHand kernel state (asked_of call body)

pub record KernelSo (wants : Wants) (InHand : ℕ → KernelState → Asked → Type 0) (machine : Machine) (kernel : ℕ) (state : KernelState) : Type 0 where
  pub such : KeepsSo machine state
  pub kept : AllByRecursion (CallKept wants InHand kernel state) machine.unfinished

-- such a call is answered by one of these, or kept
abbrev pub CallHeld : Wants → ℕ → KernelState → List (TxNo × ReplyBody) → Call → Type 0
CallHeld wants kernel state answers call =
    (body : Request) → call.owner ≡ kernel → holds (part_of kernel call.receivers) ≡ true → asked_request call.body ≡ Some body → is_wanted wants state body ≡ true
    → AnswersIn call.tx answers ⊎ KeepsIt state (asked_of call body)

-- nothing
abbrev pub NoHand : ℕ → KernelState → Asked → Type 0
NoHand kernel state asked = ⊥

-- a request that comes is in hand: the kernel of that number takes it on
abbrev pub Comes : Input → ℕ → State → ℕ → KernelState → Asked → Type 0
Comes input kernel s other state asked = (other ≡ kernel) × (kernel_at kernel s ≡ Some state) × (input ≡ inputs.Request asked.tx asked.from asked.body) × TakesOn state asked.body

-- ---- what is so of all that a kernel keeps

so_after : (act : Act) (machine : Machine) (state : KernelState) → KeepsSo machine state → KeepsSo (after machine act) state
so_after act machine (kernels.Server server) h = h
so_after act machine (kernels.Client client) h = client_after act machine client h

-- where a request is handed out
pub so_handed : (copy : PacketCopy) (machine : Machine) (state : KernelState) → KeepsSo machine state → KeepsSo (delivered_as FirstRequest copy Once (landed copy machine)) state
so_handed copy machine (kernels.Server server) h = h
so_handed copy machine (kernels.Client client) h = client_handed copy machine client h

so_run : (steps : List (Act × Counts)) (machine : Machine) (state : KernelState) → KeepsSo machine state → KeepsSo (reached machine steps) state
so_run steps machine (kernels.Server server) h = h
so_run steps machine (kernels.Client client) h = client_run steps machine client h

pub so_takes : (input : Input) (next : TxNo) (step : ℕ) (machine : Machine) (state : KernelState) → Ordered machine → Fits input machine → KeepsSo machine state → KeepsSo machine (kernel_step state input next step).0
so_takes input next step machine (kernels.Server server) ordered fits h = step_keeps server input next h
so_takes input next step machine (kernels.Client client) ordered fits h = client_takes input next step machine client ordered fits h

module _ (wants : Wants) where
  kept_bears : (InHand : ℕ → KernelState → Asked → Type 0) (kernel : ℕ) (state : KernelState) → Bears (CallKept wants InHand kernel state)
  kept_bears InHand kernel state = record {
    tried_so = λ call k. k;
    silent_so = λ at call k body owner held asks wanted. k body owner (held_before at kernel Silent call.receivers refl held) asks wanted;
    answered_so = λ reply call k body owner held asks wanted. k body owner (held_before call.owner kernel Answered call.receivers refl held) asks wanted;
  }

  pub kernel_quiet : (InHand : ℕ → KernelState → Asked → Type 0) (act : Act) (machine : Machine) → IsQuiet machine act → (kernel : ℕ) (state : KernelState) → KernelSo wants InHand machine kernel state → KernelSo wants InHand (after machine act) kernel state
  kernel_quiet InHand act machine quiet kernel state h = record { such = so_after act machine state h.such; kept = quiet_keeps (CallKept wants InHand kernel state) (kept_bears InHand kernel state) act machine quiet h.kept }

  pub kernel_weaken : (InHand Other : ℕ → KernelState → Asked → Type 0) (machine : Machine) (kernel : ℕ) (state : KernelState) → ((asked : Asked) → InHand kernel state asked → Other kernel state asked) → KernelSo wants InHand machine kernel state → KernelSo wants Other machine kernel state
  kernel_weaken InHand Other machine kernel state weaken h = record { such = h.such; kept = each_weaken (CallKept wants InHand kernel state) (CallKept wants Other kernel state) machine.unfinished (λ call k body owner held asks wanted. by (asked_of call body) (k body owner held asks wanted)) h.kept }
    where
      by : (asked : Asked) → KeepsIt state asked ⊎ InHand kernel state asked → KeepsIt state asked ⊎ Other kernel state asked
      by asked (inl keeps) = inl keeps
      by asked (inr hand) = inr (weaken asked hand)

  pub kernel_image : (machine : Machine) (kernel pid : ℕ) (image : processes.Machine) (state : KernelState) → KernelSo wants NoHand machine kernel state → KernelSo wants NoHand machine kernel (image_put pid image state)
  kernel_image machine kernel pid image (kernels.Server server) h = h
  kernel_image machine kernel pid image (kernels.Client client) h = record {
    such = client_image machine pid image client h.such;
    kept = each_weaken (CallKept wants NoHand kernel (kernels.Client client)) (CallKept wants NoHand kernel (kernels.Client (with_image pid image client))) machine.unfinished
        (λ call k body owner held asks wanted. by (asked_of call body) (k body owner held asks wanted)) h.kept;
  }
    where
      by : (asked : Asked) → IsKept asked.tx client ⊎ ⊥ → IsKept asked.tx (with_image pid image client) ⊎ ⊥
      by asked (inl keeps) = inl (image_keeps asked.tx pid image client keeps)
      by asked (inr none) = absurd none

  -- ---- what a step says goes out

  module _ {L : Type 0} (faults asked : L → ℕ → ℕ → ℕ) (c : Description) (kernel : ℕ) (out : Out) (old new : Wired L) (said : Said) (g : GoesOut faults asked c kernel out old new said) where
    so_out : (state : KernelState) → KeepsSo old.machine state → KeepsSo new.machine state
    so_out state h =
        subst (λ (machine : Machine). KeepsSo machine state) (sym g.answers.ran.reaches) (so_run g.answers.steps g.between.machine state
        (subst (λ (machine : Machine). KeepsSo machine state) (sym g.requests.ran.reaches) (so_run g.requests.steps old.machine state h)))

    -- first the remote calls
    begun_keeps : (other : ℕ) (F : Call → Type 0) → ((call : Call) → (holds (part_of other call.receivers) ≡ true → ⊥) → F call) → AllByRecursion F old.machine.unfinished → AllByRecursion F g.between.machine.unfinished
    begun_keeps other F new h =
        subst (λ (machine : Machine). AllByRecursion F machine.unfinished) (sym g.requests.ran.reaches)
        (begins_keep F (λ machine from port servers owner body going about before. new (new_call machine from port servers owner body going.tries about before) (fresh_none other servers)) c kernel out.sends old.machine g.requests.steps g.requests.each h)

    -- another kernel's stay as they are
    pub other_out : (other : ℕ) (state : KernelState) → KernelSo wants NoHand old.machine other state → KernelSo wants NoHand new.machine other state
    other_out other state h = record {
      such = so_out state h.such;
      kept =
          subst (λ (machine : Machine). AllByRecursion (CallKept wants NoHand other state) machine.unfinished) (sym g.answers.ran.reaches)
          (answers_keep (CallKept wants NoHand other state) (kept_bears NoHand other state) kernel out.answers g.between.machine g.answers.steps g.answers.each
          (begun_keeps other (CallKept wants NoHand other state) (λ call none body owner held asks wanted. absurd (none held)) h.kept));
    }

    -- one answer goes back
    past_answer : (state : KernelState) (answer : TxNo × ReplyBody) (answers : List (TxNo × ReplyBody)) (call : Call) → is_call answer.0 call ≡ false → CallHeld wants kernel state (answer ∷ answers) call → CallHeld wants kernel state answers call
    past_answer state answer answers call off k body owner held asks wanted = by (k body owner held asks wanted)
      where
        by : AnswersIn call.tx (answer ∷ answers) ⊎ KeepsIt state (asked_of call body) → AnswersIn call.tx answers ⊎ KeepsIt state (asked_of call body)
        by (inl (inl here)) = absurd (true≢false (sym (ap (λ (tx : TxNo). call.tx.0 == tx.0) here ∙ eq_same call.tx.0) ∙ off))
        by (inl (inr later)) = inl later
        by (inr keeps) = inr keeps

    held_answered : (state : KernelState) (answers : List (TxNo × ReplyBody)) (reply : List ℕ) (call : Call) → CallHeld wants kernel state answers (answered reply call)
    held_answered state answers reply call body owner held asks wanted = absurd (answered_none kernel call.receivers (subst (λ n. holds (part_of kernel (with_part n Answered call.receivers)) ≡ true) owner held))

    answers_held : (state : KernelState) (answers : List (TxNo × ReplyBody)) (machine : Machine) (steps : List (Act × Counts)) → EachDone (goes_back kernel) IsAnswer answers machine steps → Ordered machine → AllByRecursion (CallHeld wants kernel state answers) machine.unfinished → AllByRecursion (CallHeld wants kernel state []) (reached machine steps).unfinished
    answers_held state [] machine steps e ordered h = subst (λ (all : List (Act × Counts)). AllByRecursion (CallHeld wants kernel state []) (reached machine all).unfinished) (sym e) h
    answers_held state (answer ∷ answers) machine [] e ordered h = absurd e
    answers_held state (answer ∷ answers) machine (step ∷ steps) e ordered h =
        let packet : Packet = e.0.way in
        let number : packet.tx ≡ answer.0 = answer_tx kernel answer (asker kernel machine answer.0) packet e.0.planned in
        let act_is : step.0 ≡ Answer answer.0 (spelling packet) e.0.done.given = e.0.done.is ∙ ap (λ (tx : TxNo). Answer tx (spelling packet) e.0.done.given) number in
        let there = (unfinished_replied (call_of machine answer.0) e.0.done.given machine).0 in
        answers_held state answers (after machine step.0) steps e.1 (ordered_after machine step.0 ordered)
        (subst (λ (a : Act). AllByRecursion (CallHeld wants kernel state answers) (after machine a).unfinished) (sym act_is)
        (subst (λ (calls : List Call). AllByRecursion (CallHeld wants kernel state answers) (changed (is_call answer.0) (answered (spelling packet)) calls)) (sym there)
        (each_changed (CallHeld wants kernel state (answer ∷ answers)) (CallHeld wants kernel state answers) answer.0 (answered (spelling packet)) 0 machine.begun machine.unfinished ordered (λ call off k. past_answer state answer answers call off k) (λ found is k. held_answered state answers (spelling packet) found) h)))

    left_kept : (state : KernelState) (call : Call) → CallHeld wants kernel state [] call → CallKept wants NoHand kernel state call
    left_kept state call k body owner held asks wanted = by (k body owner held asks wanted)
      where
        by : ⊥ ⊎ KeepsIt state (asked_of call body) → KeepsIt state (asked_of call body) ⊎ ⊥
        by (inl none) = absurd none
        by (inr keeps) = inl keeps

    pub own_out : (state : KernelState) → Ordered old.machine → KeepsSo old.machine state → AllByRecursion (CallHeld wants kernel state out.answers) old.machine.unfinished → KernelSo wants NoHand new.machine kernel state
    own_out state ordered such h =
        let begun : AllByRecursion (CallHeld wants kernel state out.answers) g.between.machine.unfinished = begun_keeps kernel (CallHeld wants kernel state out.answers) (λ call none body owner held asks wanted. absurd (none held)) h in
        let between : Ordered g.between.machine = subst Ordered (sym g.requests.ran.reaches) (ordered_run g.requests.steps old.machine ordered) in
        record {
          such = so_out state such;
          kept = each_weaken (CallHeld wants kernel state []) (CallKept wants NoHand kernel state) new.machine.unfinished (left_kept state)
              (subst (λ (machine : Machine). AllByRecursion (CallHeld wants kernel state []) machine.unfinished) (sym g.answers.ran.reaches) (answers_held state out.answers g.between.machine g.answers.steps g.answers.each between begun));
        }

  -- ---- what comes to a kernel

  -- each call that a kernel has is answered in its step, or kept
  pub kernel_steps : (input : Input) (next : TxNo) (step kernel : ℕ) (s : State) (state : KernelState) (machine : Machine) → KernelSo wants (Comes input kernel s) machine kernel state
      → AllByRecursion (CallHeld wants kernel (kernel_step state input next step).0 (kernel_step state input next step).1.answers) machine.unfinished
  kernel_steps input next step kernel s (kernels.Server server) machine h =
      each_weaken (CallKept wants (Comes input kernel s) kernel (kernels.Server server)) (CallHeld wants kernel (kernels.Server behind) (server_step server input next).1.answers) machine.unfinished
      (λ call k body owner held asks wanted. done (asked_of call body) (step_done server input next (asked_of call body) h.such (owed (asked_of call body) (k body owner held asks wanted)))) h.kept
    where
      behind : Server
      behind = (server_step server input next).0

      owed : (asked : Asked) → StandsIn asked (server.asking ++ server.waiting) ⊎ Comes input kernel s kernel (kernels.Server server) asked → IsOwed server input asked
      owed asked (inl stands) = WasKept (kept_there server asked stands)
      owed asked (inr came) = HasCome came.2 came.3

      done : (asked : Asked) → Held asked (server_step server input next).0.asking (server_step server input next).0.waiting (server_step server input next).1.answers → AnswersIn asked.tx (server_step server input next).1.answers ⊎ StandsIn asked ((server_step server input next).0.asking ++ (server_step server input next).0.waiting)
      done asked (InAnswers there) = inl there
      done asked (InAsking stands) = inr (stands_front (server_step server input next).0.asking (server_step server input next).0.waiting asked stands)
      done asked (InWaiting stands) = inr (stands_behind (server_step server input next).0.asking (server_step server input next).0.waiting asked stands)
  kernel_steps input next step kernel s (kernels.Client client) machine h =
      each_weaken (CallKept wants (Comes input kernel s) kernel (kernels.Client client)) (CallHeld wants kernel (kernels.Client (client_step client input next step).0) (client_step client input next step).1.answers) machine.unfinished
      (λ call k body owner held asks wanted. owed (asked_of call body) (k body owner held asks wanted)) h.kept
    where
      owed : (asked : Asked) → IsKept asked.tx client ⊎ Comes input kernel s kernel (kernels.Client client) asked → AnswersIn asked.tx (client_step client input next step).1.answers ⊎ IsKept asked.tx (client_step client input next step).0
      owed asked (inl keeps) = client_owes client input next step asked.tx (was_kept client input asked.tx keeps)
      owed asked (inr came) = client_owes client input next step asked.tx (has_come client input asked.tx asked.from asked.body came.2 came.3)
