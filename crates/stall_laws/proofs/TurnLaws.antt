-- A turn of a kernel, over a wire that goes on: who has which call, and which are kept.
use Rattle.std.proofs.Common.{arith, ◌≡◌, ℕ, ◌-◌, ◌≤◌, ◌<◌, ◌⊎◌, inl, inr, ◌==◌, Bool, true, false, ◌&&◌, not, cond, List, [], length, slice_get, Option, Some, None, refl, sym, ap, ◌∙◌, subst, true≢false}
use Rattle.std.specs.List.{AllByRecursion}
use Rattle.std.proofs.lemmas.Bool.{eqb-true}
use Rattle.sprite_ids.specs.declared.CopyNo.{CopyNo}
use Rattle.sprite_ids.specs.declared.TxNo.{TxNo}
use Rattle.sprite_ids.proofs.ListLaws.{each_weaken, get_within, some_is}
use Rattle.link_plan.specs.declared.Fate.TheVariants.{Once}
use Rattle.process_machine.specs.declared.BurstEnd.{BurstEnd}
use Rattle.process_machine.specs.declared.BurstEnd.TheVariants as burst
use Rattle.process_machine.specs.declared.Call.{Call as SystemCall}
use Rattle.process_machine.specs.declared.Call.TheVariants.{BadStep}
use Rattle.process_machine.specs.Calls.{call_at}
use Rattle.process_machine.specs.Machine as processes
use Rattle.kernel_rpc.specs.declared.call.Arrival.{Arrival}
use Rattle.kernel_rpc.specs.declared.call.Arrival.TheVariants.{FirstRequest, FirstReply, AskedAgain, Past}
use Rattle.kernel_rpc.specs.declared.call.Call.{Call}
use Rattle.kernel_rpc.specs.declared.call.Part.TheVariants.{Holding, Silent}
use Rattle.kernel_rpc.specs.declared.call.Receiver.{Receiver}
use Rattle.kernel_rpc.specs.declared.Expired.{Expired}
use Rattle.kernel_rpc.specs.declared.Expired.TheVariants as expired
use Rattle.kernel_rpc.specs.declared.PacketCopy.{PacketCopy}
use Rattle.kernel_rpc.specs.Bodies.{IsMessage, body_of}
use Rattle.kernel_rpc.specs.Machine.{Machine, arrival, call_of, copy_of, delivered_as, further, holds, is_call, is_holding, is_owner, landed, may_be_silent, part_in, part_of, with_part}
use Rattle.kernel_rpc.specs.Histories.{reached}
use Rattle.kernel_rpc.specs.Runs.{Act, Counts, Deliver, Expire, Silence, after, delivered_by}
use Rattle.kernel_rpc.specs.Sound.{Wired}
use Rattle.kernel_rpc.specs.Steps.{IsStep, counts_in, sent_in}
use Rattle.kernel_rpc.proofs.ArrivalLaws.{first_request}
use Rattle.kernel_rpc.proofs.NumberLaws.{changed_same, each_changed}
use Rattle.kernel_rpc.proofs.PartLaws.{eq_same, part_stays}
use Rattle.kernel_rpc.proofs.RunLaws.{Ordered, ordered_after}
use Rattle.kernel_rpc.proofs.SoundLaws.{found_is, found_sound}
use Rattle.kernel_steps.specs.declared.Input.{Input}
use Rattle.kernel_steps.specs.declared.Input.TheVariants as inputs
use Rattle.kernel_steps.specs.declared.Out.{Out}
use Rattle.kernel_steps.specs.Outs.{started}
use Rattle.packet_bodies.specs.declared.Body.{Body}
use Rattle.packet_bodies.specs.declared.Body.TheVariants as bodies
use Rattle.packet_bodies.specs.declared.Request.{Request}
use Rattle.unix_calls.specs.declared.Description.{Description}
use Rattle.unix_calls.specs.declared.Event.TheVariants as events
use Rattle.wire_format.specs.declared.Packet.{Packet}
use Rattle.wire_format.specs.Packets.{reading}
use Rattle.server_kernel.specs.declared.Asked.{Asked}
use Rattle.cluster_wire.specs.Arriving.{Brings, SilentIf, asks_prefix, copy_to, given_in, is_prefix, only_to}
use Rattle.cluster_wire.specs.Arriving as arriving
use Rattle.cluster_wire.specs.Firing.{may_fire}
use Rattle.cluster_wire.specs.declared.Arrived.{Arrived}
use Rattle.cluster_wire.specs.declared.Arrived.TheVariants as arrived
use Rattle.cluster_wire.specs.declared.Said.{Said}
use Rattle.cluster_kernels.specs.declared.KernelState.{KernelState}
use Rattle.cluster_kernels.specs.declared.State.{State}
use Rattle.cluster_kernels.specs.Kernels.{can_take, image_put, kernel_step}
use Rattle.cluster_kernels.specs.States.{can_take_at, can_take_by, count_at, image_put_at, kernel_at, noted_step, numbered_at, put_image, stepped, stepped_by}
use Rattle.cluster_steps.specs.Steps.{GoesOut, TakesSo}
use Rattle.cluster_choices.specs.declared.Choice.{Choice}
use Rattle.cluster_choices.specs.declared.Choice.TheVariants as choices
use Rattle.cluster_choices.specs.Acts.{Expires, FiredAs, Given, Happens, delivery}
use Rattle.cluster_choices.specs.Acts as acts
use Rattle.cluster_bursts.specs.declared.Burst.{Burst}
use Rattle.cluster_bursts.specs.declared.BurstOutcome.{BurstOutcome}
use Rattle.cluster_bursts.specs.declared.BurstOutcome.TheVariants as outcome
use Rattle.cluster_bursts.specs.declared.Job.{Job}
use Rattle.cluster_bursts.specs.Bursts.{EndsAs, GoesOn, begun_by, came_to, issued, recorded}
use Rattle.sprite_cluster.specs.Everywhere.{OfAll}
use Rattle.sprite_cluster.proofs.KernelLaws.{all_at, all_weaken, one_at}
use Rattle.reached_domains.specs.Domains.{asked_request, request_in, request_read}
use Rattle.stall_laws.specs.Stalls.{asked_of}
use Rattle.stall_laws.proofs.CallLaws.{CallSo, IsQuiet, Nobody, begins_so, ordered_run, so_answers, so_further, so_held, so_quiet, so_weaken}
use Rattle.stall_laws.proofs.ClientLaws.{Fits, fits_handed}
use Rattle.stall_laws.proofs.KernelLaws.{But, CallKept, Comes, KeepsIt, KernelSo, NoHand, TakesOn, Wants, all_at_their_places, all_two, is_wanted, kernel_image, kernel_quiet, kernel_steps, kernel_weaken, length_set, other_out, own_out, set_at, so_handed, so_takes}
use Rattle.stall_laws.proofs.ReceiverLaws.{HeldBy, OwnerOr, held_weaken, silenced, unheld}

-- ---- a cluster

pub record Mid (wants : Wants) (c : Description) (May : TxNo → List ℕ → ℕ → Type 0) (InHand : ℕ → KernelState → Asked → Type 0) (machine : Machine) (s : State) : Type 0 where
  pub ordered : Ordered machine
  pub calls : AllByRecursion (CallSo c May) machine.unfinished
  pub kernels : OfAll (KernelSo wants InHand machine) 1 s.kernels
  pub many : length s.kernels ≡ length c.kernels

-- between two changes: only owners have calls, and what kernels have is kept
abbrev pub Stands : Wants → Description → Machine → State → Type 0
Stands wants c machine s = Mid wants c Nobody NoHand machine s

-- a kernel takes on each request that goes to it and is wanted, where it can take it
abbrev pub AreTakenOn : Wants → Machine → State → Type 0
AreTakenOn wants machine s =
    (tx : TxNo) (call : Call) (state : KernelState) (body : Request) → call_of machine tx ≡ Some call → kernel_at call.owner s ≡ Some state → asked_request call.body ≡ Some body
    → is_wanted wants state body ≡ true → can_take (inputs.Request call.tx call.from body) state ≡ true → TakesOn state body

-- what an input asks that comes by a call
abbrev pub AskedBy : Input → List ℕ → Type 0
AskedBy (inputs.Request tx source body) bytes = asked_request bytes ≡ Some body
AskedBy input bytes = ⊥

-- the kernel that takes a call's request has it
abbrev pub Taker : TxNo → Input → ℕ → TxNo → List ℕ → ℕ → Type 0
Taker tx input kernel number bytes other = (number.0 ≡ tx.0) × (other ≡ kernel) × AskedBy input bytes

-- whether what comes is no other kernel's request: an input, a looked-up one, and what a packet brings
abbrev is_own : Input → Bool
is_own (inputs.Request tx source body) = false
is_own input = true

abbrev is_own_in : Option Input → Bool
is_own_in None = true
is_own_in (Some input) = is_own input

abbrev brings_own : Arrived → Bool
brings_own (arrived.Message input) = is_own input
brings_own came = true

own_fits : (input : Input) (machine : Machine) → is_own input ≡ true → Fits input machine
own_fits (inputs.Request tx source body) machine none = absurd (cc)
own_fits input machine none = tt

reply_brings : (came : Arrived) (tx : TxNo) (from : ℕ) (body : Body) → came ≡ arriving.reply_in tx from body → brings_own came ≡ true
reply_brings came tx from (bodies.Request body) e = ap brings_own e
reply_brings came tx from (bodies.Reply body) e = ap brings_own e

issued_own : (pid : ℕ) (call : SystemCall) (o : Option ℕ) → is_own_in (issued pid call o) ≡ true
issued_own pid call None = refl
issued_own pid call (Some number) = refl

comes_own : (kernel : ℕ) (b : Burst) (end : BurstEnd) (s : State) → is_own_in (came_to kernel b end s) ≡ true
comes_own kernel b burst.Call s = issued_own b.pid (call_at b.program b.to) (numbered_at kernel b.pid s)
comes_own kernel b burst.BadStep s = issued_own b.pid BadStep (numbered_at kernel b.pid s)
comes_own kernel b (burst.PageNeeded page) s = refl
comes_own kernel b burst.Limit s = refl

same_tx : (one other : TxNo) → one.0 ≡ other.0 → one ≡ other
same_tx one other e = ap (λ n. record { 0 = n }) e

-- what a readable call asks
pub asks_so : (c : Description) (May : TxNo → List ℕ → ℕ → Type 0) (call : Call) → (k : CallSo c May call) → asked_request call.body ≡ Some k.request
asks_so c May call k = ap request_read k.reads ∙ ap request_in k.is

module _ (wants : Wants) (c : Description) where
  -- kernels stand so whatever is told
  pub told : (May : TxNo → List ℕ → ℕ → Type 0) (InHand : ℕ → KernelState → Asked → Type 0) (machine : Machine) (s t : State) → t.kernels ≡ s.kernels → Mid wants c May InHand machine s → Mid wants c May InHand machine t
  told May InHand machine s t same h = record {
    ordered = h.ordered;
    calls = h.calls;
    kernels = subst (OfAll (KernelSo wants InHand machine) 1) (sym same) h.kernels;
    many = ap (λ (states : List KernelState). length states) same ∙ h.many;
  }

  -- a call of the wire that neither begins a call nor hands out its request
  quiet : (May : TxNo → List ℕ → ℕ → Type 0) (InHand : ℕ → KernelState → Asked → Type 0) (act : Act) (machine : Machine) (s : State) → IsQuiet machine act → Mid wants c May InHand machine s → Mid wants c May InHand (after machine act) s
  quiet May InHand act machine s off h = record {
    ordered = ordered_after machine act h.ordered;
    calls = so_quiet c May act machine off h.calls;
    kernels = all_weaken (KernelSo wants InHand machine) (KernelSo wants InHand (after machine act)) (kernel_quiet wants InHand act machine off) s.kernels 1 h.kernels;
    many = h.many;
  }

  -- ---- a request is handed out

  module _ (kernel : ℕ) (machine : Machine) (s : State) (copy : PacketCopy) (call : Call) (request : Request) (goes : copy.to ≡ kernel) (there : call_of machine copy.tx ≡ Some call) (asks : asked_request call.body ≡ Some request)
      (takes : AreTakenOn wants machine s) (can : can_take_at kernel (inputs.Request copy.tx call.from request) s ≡ true) where
    abbrev taken : Machine
    taken = delivered_as FirstRequest copy Once (landed copy machine)

    numbered : call.tx.0 ≡ copy.tx.0
    numbered = eqb-true call.tx.0 copy.tx.0 (found_is copy.tx call machine.unfinished there)

    is_there : (found : Call) → call_of machine copy.tx ≡ Some found → call ≡ found
    is_there found e = some_is call found (sym there ∙ e)

    call_taken : (found : Call) → call_of machine copy.tx ≡ Some found → CallSo c Nobody found → CallSo c (Taker copy.tx (inputs.Request copy.tx call.from request) kernel) (further copy.to Holding found)
    call_taken found e k =
        let same : call ≡ found = is_there found e in
        so_further c (Taker copy.tx (inputs.Request copy.tx call.from request) kernel) copy.to Holding found
        (λ held. inr (ap (λ (one : Call). one.tx.0) (sym same) ∙ numbered, goes, ap (λ (one : Call). asked_request one.body) (sym same) ∙ asks))
        (so_weaken c Nobody (Taker copy.tx (inputs.Request copy.tx call.from request) kernel) found (λ other none. absurd none) k)

    in_hand : (other : ℕ) (state : KernelState) (body : Request) → slice_get s.kernels (other - 1) ≡ Some state → call.owner ≡ other → other ≡ kernel → asked_request call.body ≡ Some body → is_wanted wants state body ≡ true → Comes (inputs.Request copy.tx call.from request) kernel s other state (asked_of call body)
    in_hand other state body e owner same f wanted =
        let own : call.owner ≡ kernel = owner ∙ same in
        let at : kernel_at kernel s ≡ Some state = ap (λ n. slice_get s.kernels (n - 1)) (sym same) ∙ e in
        let is : inputs.Request copy.tx call.from request ≡ inputs.Request call.tx call.from body =
        ap (λ (tx : TxNo). inputs.Request tx call.from request) (same_tx copy.tx call.tx (sym numbered)) ∙ ap (inputs.Request call.tx call.from) (some_is request body (sym asks ∙ f)) in
        let can_so : can_take (inputs.Request call.tx call.from body) state ≡ true =
        ap (λ (input : Input). can_take input state) (sym is) ∙ (ap (can_take_by (inputs.Request copy.tx call.from request)) (sym at) ∙ can) in
        (same, at, is, takes copy.tx call state body there (ap (λ n. kernel_at n s) own ∙ at) f wanted can_so)

    kept_taken : (other : ℕ) (state : KernelState) (found : Call) → slice_get s.kernels (other - 1) ≡ Some state → call_of machine copy.tx ≡ Some found → CallKept wants NoHand other state found → CallKept wants (Comes (inputs.Request copy.tx call.from request) kernel s) other state (further copy.to Holding found)
    kept_taken other state found e f k body owner held g wanted = by (copy.to == other) refl
      where
        same : call ≡ found
        same = is_there found f

        none : KeepsIt state (asked_of found body) ⊎ ⊥ → KeepsIt state (asked_of found body) ⊎ Comes (inputs.Request copy.tx call.from request) kernel s other state (asked_of found body)
        none (inl keeps) = inl keeps
        none (inr hand) = absurd hand

        by : (b : Bool) → (copy.to == other) ≡ b → KeepsIt state (asked_of found body) ⊎ Comes (inputs.Request copy.tx call.from request) kernel s other state (asked_of found body)
        by true is =
            let own : other ≡ kernel = sym (eqb-true copy.to other is) ∙ goes in
            inr (subst (λ (one : Call). Comes (inputs.Request copy.tx call.from request) kernel s other state (asked_of one body)) same
            (in_hand other state body e (ap (λ (one : Call). one.owner) same ∙ owner) own (ap (λ (one : Call). asked_request one.body) same ∙ g) wanted))
        by false off = none (k body owner (ap holds (sym (part_stays copy.to other Holding found.receivers off)) ∙ held) g wanted)

    kept_other : (other : ℕ) (state : KernelState) (one : Call) → CallKept wants NoHand other state one → CallKept wants (Comes (inputs.Request copy.tx call.from request) kernel s) other state one
    kept_other other state one k body owner held g wanted = by (k body owner held g wanted)
      where
        by : KeepsIt state (asked_of one body) ⊎ ⊥ → KeepsIt state (asked_of one body) ⊎ Comes (inputs.Request copy.tx call.from request) kernel s other state (asked_of one body)
        by (inl keeps) = inl keeps
        by (inr hand) = absurd hand

    kernel_taken : Ordered machine → (other : ℕ) (state : KernelState) → KernelSo wants NoHand machine other state → slice_get s.kernels (other - 1) ≡ Some state → KernelSo wants (Comes (inputs.Request copy.tx call.from request) kernel s) taken other state
    kernel_taken ordered other state h e = record {
      such = so_handed copy machine state h.such;
      kept = each_changed (CallKept wants NoHand other state) (CallKept wants (Comes (inputs.Request copy.tx call.from request) kernel s) other state) copy.tx (further copy.to Holding) 0 machine.begun machine.unfinished ordered
          (λ one off k. kept_other other state one k) (λ found f k. kept_taken other state found e f k) h.kept;
    }

    pub handed : Stands wants c machine s → Ordered taken → Mid wants c (Taker copy.tx (inputs.Request copy.tx call.from request) kernel) (Comes (inputs.Request copy.tx call.from request) kernel s) taken s
    handed h ordered = record {
      ordered = ordered;
      calls = each_changed (CallSo c Nobody) (CallSo c (Taker copy.tx (inputs.Request copy.tx call.from request) kernel)) copy.tx (further copy.to Holding) 0 machine.begun machine.unfinished h.ordered
          (λ one off k. so_weaken c Nobody (Taker copy.tx (inputs.Request copy.tx call.from request) kernel) one (λ other none. absurd none) k) (λ found e k. call_taken found e k) h.calls;
      kernels = all_two (KernelSo wants NoHand machine) (λ other state. slice_get s.kernels (other - 1) ≡ Some state) (KernelSo wants (Comes (inputs.Request copy.tx call.from request) kernel s) taken)
          (λ other state k e. kernel_taken h.ordered other state k e) s.kernels 1 h.kernels (all_at_their_places s.kernels);
      many = h.many;
    }

  -- ---- a kernel takes something

  module _ {L : Type 0} (faults asked : L → ℕ → ℕ → ℕ) (kernel : ℕ) (low : 1 ≤ kernel) where
    -- the calls, once what it says went out
    calls_out : (May : TxNo → List ℕ → ℕ → Type 0) (out : Out) (old new : Wired L) (said : Said) → kernel ≤ length c.kernels → GoesOut faults asked c kernel out old new said → AllByRecursion (CallSo c May) old.machine.unfinished → AllByRecursion (CallSo c May) new.machine.unfinished
    calls_out May out old new said high g h =
        subst (λ (machine : Machine). AllByRecursion (CallSo c May) machine.unfinished) (sym g.answers.ran.reaches)
        (so_answers c May kernel out.answers g.between.machine g.answers.steps g.answers.each
        (subst (λ (machine : Machine). AllByRecursion (CallSo c May) machine.unfinished) (sym g.requests.ran.reaches)
        (begins_so c May kernel out.sends old.machine (counts_in faults asked old.link) g.requests.steps low high g.requests.each g.requests.ran.run h)))

    ordered_out : (out : Out) (old new : Wired L) (said : Said) → GoesOut faults asked c kernel out old new said → Ordered old.machine → Ordered new.machine
    ordered_out out old new said g h =
        subst Ordered (sym g.answers.ran.reaches) (ordered_run g.answers.steps g.between.machine (subst Ordered (sym g.requests.ran.reaches) (ordered_run g.requests.steps old.machine h)))

    -- where the kernel isn't there, nothing is said
    silent_out : (May : TxNo → List ℕ → ℕ → Type 0) (next : TxNo) (old new : Wired L) (said : Said) → GoesOut faults asked c kernel (started next) old new said → AllByRecursion (CallSo c May) old.machine.unfinished → AllByRecursion (CallSo c May) new.machine.unfinished
    silent_out May next old new said g h =
        subst (λ (machine : Machine). AllByRecursion (CallSo c May) machine.unfinished) (sym g.answers.ran.reaches)
        (so_answers c May kernel [] g.between.machine g.answers.steps g.answers.each
        (subst (λ (machine : Machine). AllByRecursion (CallSo c May) machine.unfinished) (sym g.requests.ran.reaches) (none_begun g.requests.steps g.requests.each)))
      where
        none_begun : (steps : List (Act × Counts)) → steps ≡ [] → AllByRecursion (CallSo c May) (reached old.machine steps).unfinished
        none_begun steps e = subst (λ (all : List (Act × Counts)). AllByRecursion (CallSo c May) (reached old.machine all).unfinished) (sym e) h

    -- the kernel behind its step
    stepped_so : (found : KernelState) (input : Input) (next : TxNo) (step : ℕ) (old new : Wired L) (said : Said) (s : State) → GoesOut faults asked c kernel (kernel_step found input next step).1 old new said → Ordered old.machine → Fits input old.machine → KernelSo wants (Comes input kernel s) old.machine kernel found
        → KernelSo wants NoHand new.machine kernel (kernel_step found input next step).0
    stepped_so found input next step old new said s g ordered fits h =
        own_out wants faults asked c kernel (kernel_step found input next step).1 old new said g (kernel_step found input next step).0 ordered (so_takes input next step old.machine found ordered fits h.such) (kernel_steps wants input next step kernel s found old.machine h)

    -- and the others
    other_so : (out : Out) (input : Input) (old new : Wired L) (said : Said) (s : State) → GoesOut faults asked c kernel out old new said → (other : ℕ) (state : KernelState) → KernelSo wants (Comes input kernel s) old.machine other state → But (KernelSo wants NoHand new.machine) kernel other state
    other_so out input old new said s g other state h off = other_out wants faults asked c kernel out old new said g other state (kernel_weaken wants (Comes input kernel s) NoHand old.machine other state (λ one came. off came.0) h)

    took_by : (May : TxNo → List ℕ → ℕ → Type 0) (o : Option KernelState) (input : Input) (said : Said) (old new : Wired L) (s : State) → kernel_at kernel s ≡ o → Fits input old.machine → GoesOut faults asked c kernel (stepped_by kernel o input said.next s).1 old new said → Mid wants c May (Comes input kernel s) old.machine s
        → Mid wants c May NoHand new.machine (stepped_by kernel o input said.next s).0
    took_by May None input said old new s there fits g h = record {
      ordered = ordered_out (started said.next) old new said g h.ordered;
      calls = silent_out May said.next old new said g h.calls;
      kernels = all_weaken (KernelSo wants (Comes input kernel s) old.machine) (KernelSo wants NoHand new.machine)
          (λ other state k. other_out wants faults asked c kernel (started said.next) old new said g other state (kernel_weaken wants (Comes input kernel s) NoHand old.machine other state (λ one came. none_there state came.1) k)) s.kernels 1 h.kernels;
      many = h.many;
    }
      where
        none_there : (state : KernelState) → kernel_at kernel s ≡ Some state → ⊥
        none_there state e = let no_kernel : None ≡ Some state = sym there ∙ e in absurd (cc)
    took_by May (Some found) input said old new s there fits g h =
        let made : KernelState × Out = kernel_step found input said.next (count_at s.steps kernel) in
        let inside : kernel - 1 < length s.kernels = get_within s.kernels (kernel - 1) found there in
        let many : length s.kernels ≡ length c.kernels = h.many in
        record {
          ordered = ordered_out made.1 old new said g h.ordered;
          calls = calls_out May made.1 old new said (omega (arith, low, inside, many)) g h.calls;
          kernels = set_at (KernelSo wants NoHand new.machine) kernel made.0 s.kernels low
              (all_weaken (KernelSo wants (Comes input kernel s) old.machine) (But (KernelSo wants NoHand new.machine) kernel) (other_so made.1 input old new said s g) s.kernels 1 h.kernels)
              (stepped_so found input said.next (count_at s.steps kernel) old new said s g h.ordered fits (one_at (KernelSo wants (Comes input kernel s) old.machine) kernel found s.kernels low h.kernels there));
          many = length_set s.kernels (kernel - 1) made.0 ∙ many;
        }

    took_so : (May : TxNo → List ℕ → ℕ → Type 0) (input : Input) (said : Said) (old new : Wired L) (s t : State) → Fits input old.machine → TakesSo faults asked c kernel input said old new s t → Mid wants c May (Comes input kernel s) old.machine s → Mid wants c May NoHand new.machine t
    took_so May input said old new s t fits so h = told May NoHand new.machine (stepped kernel input said.next s).0 t (ap (λ (u : State). u.kernels) so.state) (took_by May (kernel_at kernel s) input said old new s refl fits so.goes_out h)

    -- nothing is in hand
    none_in_hand : (input : Input) (machine : Machine) (s : State) → Stands wants c machine s → Mid wants c Nobody (Comes input kernel s) machine s
    none_in_hand input machine s h = record {
      ordered = h.ordered;
      calls = h.calls;
      kernels = all_weaken (KernelSo wants NoHand machine) (KernelSo wants (Comes input kernel s) machine) (λ other state k. kernel_weaken wants NoHand (Comes input kernel s) machine other state (λ one none. absurd none) k) s.kernels 1 h.kernels;
      many = h.many;
    }

    -- what is no other kernel's request
    took_own : (input : Input) (said : Said) (old new : Wired L) (s t : State) → is_own input ≡ true → TakesSo faults asked c kernel input said old new s t → Stands wants c old.machine s → Stands wants c new.machine t
    took_own input said old new s t none so h = took_so Nobody input said old new s t (own_fits input old.machine none) so (none_in_hand input old.machine s h)

    -- ---- who isn't to answer goes silent

    not_prefix : (input : Input) (bytes : List ℕ) (request : Request) → asks_prefix input ≡ false → AskedBy input bytes → asked_request bytes ≡ Some request → is_prefix request ≡ true → ⊥
    not_prefix (inputs.Request tx source body) bytes request off asks is e = true≢false (sym e ∙ (ap is_prefix (some_is request body (sym is ∙ asks)) ∙ off))
    not_prefix input bytes request off asks is e = absurd asks

    module _ (tx : TxNo) (input : Input) (machine : Machine) where
      owner_held : (found : Call) → HeldBy (λ n. n ≡ found.owner) found.receivers → CallSo c (Taker tx input kernel) found → CallSo c Nobody found
      owner_held found held k = so_held c (Taker tx input kernel) Nobody found (held_weaken (λ n. n ≡ found.owner) (λ n. (n ≡ found.owner) ⊎ Nobody found.tx found.body n) found.receivers (λ n e. inl e) held) k

      either : (found : Call) (n : ℕ) → (n ≡ found.owner) ⊎ Taker tx input kernel found.tx found.body n → OwnerOr found.owner kernel n
      either found n (inl same) = inl same
      either found n (inr taker) = inr taker.1

      -- where it isn't asked for the server of a prefix, the call went to its owner alone
      plain : (found : Call) → asks_prefix input ≡ false → CallSo c (Taker tx input kernel) found → HeldBy (λ n. n ≡ found.owner) found.receivers
      plain found off k = by (is_prefix k.request) refl
        where
          beyond : (n : ℕ) → is_prefix k.request ≡ true → (n ≡ found.owner) ⊎ Taker tx input kernel found.tx found.body n → n ≡ found.owner
          beyond n is (inl same) = same
          beyond n is (inr taker) = absurd (not_prefix input found.body k.request off taker.2 (asks_so c (Taker tx input kernel) found k) is)

          by : (b : Bool) → is_prefix k.request ≡ b → HeldBy (λ n. n ≡ found.owner) found.receivers
          by false e = each_weaken (λ (receiver : Receiver). receiver.kernel ≡ found.owner) (λ (receiver : Receiver). is_holding receiver.part ≡ true → receiver.kernel ≡ found.owner) found.receivers (λ receiver same held. same) (k.single e)
          by true e = held_weaken (λ n. (n ≡ found.owner) ⊎ Taker tx input kernel found.tx found.body n) (λ n. n ≡ found.owner) found.receivers (λ n h. beyond n e h) k.held

      -- where it can't go silent, it has the call no more, or is its owner
      spoken : (found : Call) → call_of machine tx ≡ Some found → may_be_silent machine tx kernel ≡ false → CallSo c (Taker tx input kernel) found → HeldBy (λ n. n ≡ found.owner) found.receivers
      spoken found e off k = by (holds (part_of kernel found.receivers)) refl
        where
          neither : (holds (part_of kernel found.receivers) && not (found.owner == kernel)) ≡ false
          neither = sym (ap (λ (o : Option Call). holds (part_in kernel o) && not (is_owner kernel o)) e) ∙ off

          owns : (b : Bool) → (found.owner == kernel) ≡ b → not b ≡ false → found.owner ≡ kernel
          owns true is no_more = eqb-true found.owner kernel is
          owns false is no_more = absurd (cc)

          beyond : (n : ℕ) → found.owner ≡ kernel → (n ≡ found.owner) ⊎ Taker tx input kernel found.tx found.body n → n ≡ found.owner
          beyond n own (inl same) = same
          beyond n own (inr taker) = taker.1 ∙ sym own

          by : (b : Bool) → holds (part_of kernel found.receivers) ≡ b → HeldBy (λ n. n ≡ found.owner) found.receivers
          by false none = unheld found.owner kernel found.receivers k.apart none (held_weaken (λ n. (n ≡ found.owner) ⊎ Taker tx input kernel found.tx found.body n) (OwnerOr found.owner kernel) found.receivers (either found) k.held)
          by true has =
              let own : found.owner ≡ kernel = owns (found.owner == kernel) refl (sym (ap (λ b. b && not (found.owner == kernel)) has) ∙ neither) in
              held_weaken (λ n. (n ≡ found.owner) ⊎ Taker tx input kernel found.tx found.body n) (λ n. n ≡ found.owner) found.receivers (λ n h. beyond n own h) k.held

      -- or goes silent
      gone_silent : (found : Call) → CallSo c (Taker tx input kernel) found → CallSo c Nobody (further kernel Silent found)
      gone_silent found k =
          so_held c (Taker tx input kernel) Nobody (further kernel Silent found)
          (held_weaken (λ n. n ≡ found.owner) (λ n. (n ≡ found.owner) ⊎ Nobody found.tx found.body n) (with_part kernel Silent found.receivers) (λ n e. inl e)
          (silenced found.owner kernel found.receivers k.apart (held_weaken (λ n. (n ≡ found.owner) ⊎ Taker tx input kernel found.tx found.body n) (OwnerOr found.owner kernel) found.receivers (either found) k.held)))
          (so_further c (Taker tx input kernel) kernel Silent found (λ e. absurd (cc)) k)

      other_call : (call : Call) → is_call tx call ≡ false → CallSo c (Taker tx input kernel) call → CallSo c Nobody call
      other_call call off k = so_weaken c (Taker tx input kernel) Nobody call (λ n taker. absurd (true≢false (sym (ap (λ number. number == tx.0) taker.0 ∙ eq_same tx.0) ∙ off))) k

      still_held : (found : Call) → call_of machine tx ≡ Some found → (asks_prefix input && may_be_silent machine tx kernel) ≡ false → CallSo c (Taker tx input kernel) found → CallSo c Nobody found
      still_held found e off k = owner_held found (by (asks_prefix input) refl) k
        where
          by : (b : Bool) → asks_prefix input ≡ b → HeldBy (λ n. n ≡ found.owner) found.receivers
          by false is = plain found is k
          by true is = spoken found e (sym (ap (λ b. b && may_be_silent machine tx kernel) is) ∙ off) k

    silenced_so : (tx : TxNo) (input : Input) (b : Bool) (old new : Wired L) (t : State) → (asks_prefix input && may_be_silent old.machine tx kernel) ≡ b → SilentIf faults asked b tx kernel old new → Mid wants c (Taker tx input kernel) NoHand old.machine t → Stands wants c new.machine t
    silenced_so tx input true old new t is step h =
        let q = quiet (Taker tx input kernel) NoHand (Silence tx kernel) old.machine t tt h in
        subst (λ (machine : Machine). Stands wants c machine t) (sym step.1) (record {
          ordered = q.ordered;
          calls = each_changed (CallSo c (Taker tx input kernel)) (CallSo c Nobody) tx (further kernel Silent) 0 old.machine.begun old.machine.unfinished h.ordered (other_call tx input old.machine) (λ found e k. gone_silent tx input old.machine found k) h.calls;
          kernels = q.kernels;
          many = q.many;
        })
    silenced_so tx input false old new t is same h = subst (λ (wire : Wired L). Stands wants c wire.machine t) (sym same) (record {
      ordered = h.ordered;
      calls = subst (AllByRecursion (CallSo c Nobody)) (changed_same (is_call tx) old.machine.unfinished)
          (each_changed (CallSo c (Taker tx input kernel)) (CallSo c Nobody) tx (λ call. call) 0 old.machine.begun old.machine.unfinished h.ordered (other_call tx input old.machine) (λ found e k. still_held tx input old.machine found e is k) h.calls);
      kernels = h.kernels;
      many = h.many;
    })

    -- ---- a copy comes

    -- a call of the wire that is quiet
    step_quiet : (old new : Wired L) (act : Act) (s : State) → IsQuiet old.machine act → IsStep faults asked old act new → Stands wants c old.machine s → Stands wants c new.machine s
    step_quiet old new act s off step h = subst (λ (machine : Machine). Stands wants c machine s) (sym step.1) (quiet Nobody NoHand act old.machine s off h)

    silence_again : (b : Bool) (tx : TxNo) (old new : Wired L) (s : State) → SilentIf faults asked b tx kernel old new → Stands wants c old.machine s → Stands wants c new.machine s
    silence_again true tx old new s step h = step_quiet old new (Silence tx kernel) s tt step h
    silence_again false tx old new s same h = subst (λ (wire : Wired L). Stands wants c wire.machine s) (sym same) h

    other_arrival : (a : Arrival) (number : CopyNo) (copy : PacketCopy) (machine : Machine) → copy_of machine number ≡ Some copy → arrival machine copy ≡ a → (a ≡ FirstRequest → ⊥) → (one : PacketCopy) → copy_of machine number ≡ Some one → arrival machine one ≡ FirstRequest → ⊥
    other_arrival a number copy machine flies is off one e first = off (sym is ∙ (ap (arrival machine) (some_is copy one (sym flies ∙ e)) ∙ first))

    -- it brings no request
    given_other : (what : Arrived) (tx : TxNo) (old new : Wired L) (s t : State) → brings_own what ≡ true → Given faults asked c kernel tx what old new s t → Stands wants c old.machine s → Stands wants c new.machine t
    given_other (arrived.Message input) tx old new s t none g h = silence_again (asks_prefix input && may_be_silent g.between.machine tx kernel) tx g.between new t g.silent (took_own input g.said old g.between s t none g.takes h)
    given_other (arrived.Again from to drawn) tx old new s t none g h = subst (λ (wire : Wired L). Stands wants c wire.machine t) (sym g.0) (told Nobody NoHand old.machine s t (ap (λ (u : State). u.kernels) g.1) h)
    given_other arrived.Old tx old new s t none g h = subst (λ (wire : Wired L). Stands wants c wire.machine t) (sym g.0) (subst (Stands wants c old.machine) (sym g.1) h)

    -- or the request of a call
    message_is : (call : Call) (o : Option Call) (message : Packet) → o ≡ Some call → IsMessage reading (body_of o) message → reading call.body ≡ Some message
    message_is call o message e is = subst (λ (found : Option Call). IsMessage reading (body_of found) message) e is

    brought : (k : Packet) (message : Packet) (tx : TxNo) (from : ℕ) (request : Request) (came : Arrived) → k ≡ message → k.from ≡ from → k.body ≡ bodies.Request request → came ≡ arriving.request_in tx message.from message.body → came ≡ arrived.Message (inputs.Request tx from request)
    brought k message tx from request came same source is e =
        e ∙ (ap (λ (p : Packet). arriving.request_in tx p.from p.body) (sym same) ∙ (ap (λ n. arriving.request_in tx n k.body) source ∙ ap (arriving.request_in tx from) is))

    first_comes : (number : CopyNo) (copy : PacketCopy) (came : Arrived) (old between new : Wired L) (s t : State) → copy_of old.machine number ≡ Some copy → copy.to ≡ kernel → arrival old.machine copy ≡ FirstRequest → Brings FirstRequest old.machine copy came → IsStep faults asked old (Deliver number (given_in came)) between → AreTakenOn wants old.machine s
        → Given faults asked c kernel copy.tx came between new s t → Stands wants c old.machine s → Stands wants c new.machine t
    first_comes number copy came old between new s t flies goes is brings step takes g h =
        let got = first_request copy (call_of old.machine copy.tx) is in
        let call : Call = got.0 in
        let k : CallSo c Nobody call = found_sound (CallSo c Nobody) (is_call copy.tx) call old.machine.unfinished got.1 h.calls in
        let same : k.packet ≡ brings.0 = some_is k.packet brings.0 (sym k.reads ∙ message_is call (call_of old.machine copy.tx) brings.0 got.1 brings.1) in
        let came_is : came ≡ arrived.Message (inputs.Request copy.tx call.from k.request) = brought k.packet brings.0 copy.tx call.from k.request came same k.source k.is brings.2 in
        let taken : Machine = delivered_as FirstRequest copy Once (landed copy old.machine) in
        let after_is : after old.machine (Deliver number (given_in came)) ≡ taken = ap (λ (o : Option PacketCopy). delivered_by o (given_in came) old.machine) flies ∙ ap (λ (a : Arrival). delivered_as a copy (given_in came) (landed copy old.machine)) is in
        let there : between.machine ≡ taken = step.1 ∙ after_is in
        let input : Input = inputs.Request copy.tx call.from k.request in
        let gm : Given faults asked c kernel copy.tx (arrived.Message input) between new s t = subst (λ (what : Arrived). Given faults asked c kernel copy.tx what between new s t) came_is g in
        let mid = handed kernel old.machine s copy call k.request goes got.1 (asks_so c Nobody call k) takes gm.takes.taken h (subst Ordered after_is (ordered_after old.machine (Deliver number (given_in came)) h.ordered)) in
        let here : Mid wants c (Taker copy.tx input kernel) (Comes input kernel s) between.machine s = subst (λ (machine : Machine). Mid wants c (Taker copy.tx input kernel) (Comes input kernel s) machine s) (sym there) mid in
        let fits : Fits input between.machine = subst (λ (machine : Machine). Fits input machine) (sym there) (fits_handed copy call call.from k.request old.machine got.1 (asks_so c Nobody call k)) in
        silenced_so copy.tx input (asks_prefix input && may_be_silent gm.between.machine copy.tx kernel) gm.between new t refl gm.silent (took_so (Taker copy.tx input kernel) input gm.said between gm.between s t fits gm.takes here)

    comes_by : (a : Arrival) (number : CopyNo) (copy : PacketCopy) (came : Arrived) (old between new : Wired L) (s t : State) → copy_of old.machine number ≡ Some copy → copy.to ≡ kernel → arrival old.machine copy ≡ a → Brings a old.machine copy came → IsStep faults asked old (Deliver number (given_in came)) between → AreTakenOn wants old.machine s
        → Given faults asked c kernel copy.tx came between new s t → Stands wants c old.machine s → Stands wants c new.machine t
    comes_by FirstRequest number copy came old between new s t flies goes is brings step takes g h = first_comes number copy came old between new s t flies goes is brings step takes g h
    comes_by FirstReply number copy came old between new s t flies goes is brings step takes g h = given_other came copy.tx between new s t (reply_brings came copy.tx brings.0.from brings.0.body brings.2) g (step_quiet old between (Deliver number (given_in came)) s (other_arrival FirstReply number copy old.machine flies is (λ e. absurd (cc))) step h)
    comes_by AskedAgain number copy came old between new s t flies goes is brings step takes g h = given_other came copy.tx between new s t (ap brings_own brings.1) g (step_quiet old between (Deliver number (given_in came)) s (other_arrival AskedAgain number copy old.machine flies is (λ e. absurd (cc))) step h)
    comes_by Past number copy came old between new s t flies goes is brings step takes g h = given_other came copy.tx between new s t (ap brings_own brings) g (step_quiet old between (Deliver number (given_in came)) s (other_arrival Past number copy old.machine flies is (λ e. absurd (cc))) step h)

    flies_to : (o : Option PacketCopy) (copy : PacketCopy) → only_to kernel o ≡ Some copy → (o ≡ Some copy) × (copy.to ≡ kernel)
    flies_to None copy e = absurd (cc)
    flies_to (Some found) copy e = by (found.to == kernel) refl e
      where
        by : (b : Bool) → (found.to == kernel) ≡ b → cond b (Some found) None ≡ Some copy → (Some found ≡ Some copy) × (copy.to ≡ kernel)
        by true is same = (same, ap (λ (one : PacketCopy). one.to) (sym (some_is found copy same)) ∙ eqb-true found.to kernel is)
        by false off same = absurd (cc)

    comes : (o : Option PacketCopy) (number : CopyNo) (old new : Wired L) (s t : State) → copy_to kernel old.machine number ≡ o → AreTakenOn wants old.machine s → acts.Comes faults asked c kernel number o old new s t → Stands wants c old.machine s → Stands wants c new.machine t
    comes None number old new s t e takes g h = subst (λ (wire : Wired L). Stands wants c wire.machine t) (sym g.0) (subst (Stands wants c old.machine) (sym g.1) h)
    comes (Some copy) number old new s t e takes g h =
        let flies = flies_to (copy_of old.machine number) copy e in
        let noted : State = noted_step kernel (delivery copy) s in
        comes_by (arrival old.machine copy) number copy g.came old g.between new noted t flies.0 flies.1 refl g.arrives.brings g.arrives.step takes g.given (told Nobody NoHand old.machine s noted refl h)

    -- ---- timers and bursts

    fired : (what : Expired) (tx : TxNo) (old new : Wired L) (s t : State) → FiredAs faults asked c kernel tx what old new s t → Stands wants c old.machine s → Stands wants c new.machine t
    fired (expired.Resent fates) tx old new s t g h = subst (λ (wire : Wired L). Stands wants c wire.machine t) (sym g.0) (told Nobody NoHand old.machine s t (ap (λ (u : State). u.kernels) g.1) h)
    fired (expired.GivenUp before now) tx old new s t g h = took_own (inputs.GaveUp tx) g.said old new (noted_step kernel (events.Expire tx true) s) t refl g.takes (told Nobody NoHand old.machine s (noted_step kernel (events.Expire tx true) s) refl h)

    expires : (b : Bool) (tx : TxNo) (old new : Wired L) (s t : State) → Expires faults asked c kernel tx b old new s t → Stands wants c old.machine s → Stands wants c new.machine t
    expires false tx old new s t g h = subst (λ (wire : Wired L). Stands wants c wire.machine t) (sym g.0) (subst (Stands wants c old.machine) (sym g.1) h)
    expires true tx old new s t g h = fired g.what tx g.between new s t g.then_so (step_quiet old g.between (Expire tx (sent_in g.what)) s tt g.fires.step h)

    pub happened : (choice : Choice) (old new : Wired L) (s t : State) → AreTakenOn wants old.machine s → Happens faults asked c kernel choice old new s t → Stands wants c old.machine s → Stands wants c new.machine t
    happened (choices.Deliver number) old new s t takes g h = comes (copy_to kernel old.machine number) number old new s t refl takes g h
    happened (choices.Expire tx) old new s t takes g h = expires (may_fire kernel old.machine tx) tx old new s t g h
    happened (choices.WriteBack file block) old new s t takes g h = took_own (inputs.Due file block) g.said old new s t refl g.takes h

    went_on : (o : Option Input) (what : BurstOutcome) (old new : Wired L) (s t : State) → is_own_in o ≡ true → GoesOn faults asked c kernel o what old new s t → Stands wants c old.machine s → Stands wants c new.machine t
    went_on (Some input) (outcome.Took said) old new s t own g h = took_own input said old new s t own g h
    went_on (Some input) outcome.Done old new s t own g h = absurd g
    went_on (Some input) outcome.Stale old new s t own g h = absurd g
    went_on None outcome.Done old new s t own g h = subst (λ (wire : Wired L). Stands wants c wire.machine t) (sym g.0) (subst (Stands wants c old.machine) (sym g.1) h)
    went_on None (outcome.Took said) old new s t own g h = absurd g
    went_on None outcome.Stale old new s t own g h = absurd g

    image_in : (o : Option KernelState) (machine : Machine) (pid : ℕ) (image : processes.Machine) (s : State) → kernel_at kernel s ≡ o → Stands wants c machine s → Stands wants c machine (image_put_at kernel pid image o s)
    image_in None machine pid image s there h = h
    image_in (Some found) machine pid image s there h = record {
      ordered = h.ordered;
      calls = h.calls;
      kernels = all_at (KernelSo wants NoHand machine) kernel (image_put pid image found) s.kernels low h.kernels
          (kernel_image wants machine kernel pid image found (one_at (KernelSo wants NoHand machine) kernel found s.kernels low h.kernels there));
      many = length_set s.kernels (kernel - 1) (image_put pid image found) ∙ h.many;
    }

    counted : (what : BurstOutcome) (b : Burst) (old new : Wired L) (s t : State) → GoesOn faults asked c kernel (came_to kernel b b.end (recorded kernel b s)) what old new (put_image kernel b.pid b.to (recorded kernel b s)) t → Stands wants c old.machine s → Stands wants c new.machine t
    counted what b old new s t g h =
        let there : State = recorded kernel b s in
        went_on (came_to kernel b b.end there) what old new (put_image kernel b.pid b.to there) t (comes_own kernel b b.end there) g (image_in (kernel_at kernel there) old.machine b.pid b.to there refl (told Nobody NoHand old.machine s there refl h))

    pub ended : (what : BurstOutcome) (b : Burst) (old new : Wired L) (s t : State) → EndsAs faults asked c kernel b what old new s t → Stands wants c old.machine s → Stands wants c new.machine t
    ended outcome.Stale b old new s t g h = subst (λ (wire : Wired L). Stands wants c wire.machine t) (sym g.1) (told Nobody NoHand old.machine s t (ap (λ (u : State). u.kernels) g.2) h)
    ended outcome.Done b old new s t g h = counted outcome.Done b old new s t g.1 h
    ended (outcome.Took said) b old new s t g h = counted (outcome.Took said) b old new s t g.1 h

  pub begun_stands : (o : Option Job) (machine : Machine) (kernel : ℕ) (s : State) → Stands wants c machine s → Stands wants c machine (begun_by kernel o s)
  begun_stands None machine kernel s h = h
  begun_stands (Some job) machine kernel s h = told Nobody NoHand machine s (begun_by kernel (Some job) s) refl h
