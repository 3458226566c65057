-- What each step of a kernel keeps, and each image of its processes, is true of all kernels of a reached cluster.
use Rattle.std.proofs.Common.{arith, ◌≡◌, ℕ, zero, suc, ◌+◌, ◌-◌, ◌≤◌, Bool, true, false, List, [], ◌∷◌, Option, Some, None, slice_get, slice_set, refl, sym, ap, subst}
use Rattle.sprite_ids.specs.declared.CopyNo.{CopyNo}
use Rattle.sprite_ids.specs.declared.TxNo.{TxNo}
use Rattle.sprite_ids.proofs.ListLaws.{some_is}
use Rattle.sprite_paths.specs.declared.Path.{Path}
use Rattle.process_machine.specs.declared.BurstEnd.{BurstEnd}
use Rattle.process_machine.specs.declared.BurstEnd.TheVariants as burst_ends
use Rattle.process_machine.specs.declared.Call.{Call}
use Rattle.process_machine.specs.Limits.{IsWithinLimits}
use Rattle.process_machine.specs.Machine.{Machine}
use Rattle.process_machine.proofs.LimitLaws.{call_within_limits}
use Rattle.kernel_rpc.specs.declared.Expired.{Expired}
use Rattle.kernel_rpc.specs.declared.Expired.TheVariants as expired
use Rattle.kernel_rpc.specs.declared.PacketCopy.{PacketCopy}
use Rattle.kernel_rpc.specs.Machine.{arrival}
use Rattle.kernel_rpc.specs.Sound.{Wired}
use Rattle.kernel_steps.specs.declared.Input.{Input}
use Rattle.kernel_steps.specs.declared.Input.TheVariants as inputs
use Rattle.unix_calls.specs.declared.Description.{Description}
use Rattle.unix_calls.specs.declared.KernelLine.{KernelLine}
use Rattle.cluster_wire.specs.Arriving.{Brings, copy_to}
use Rattle.cluster_wire.specs.Firing.{may_fire}
use Rattle.cluster_wire.specs.declared.Arrived.{Arrived}
use Rattle.cluster_wire.specs.declared.Arrived.TheVariants as arrived
use Rattle.cluster_wire.specs.declared.Said.{Said}
use Rattle.cluster_kernels.specs.declared.KernelState.{KernelState}
use Rattle.cluster_kernels.specs.declared.State.{State}
use Rattle.cluster_kernels.specs.Booted.{AreKernels, IsKernel}
use Rattle.cluster_kernels.specs.Kernels.{image_put, kernel_step}
use Rattle.cluster_kernels.specs.States.{count_at, image_put_at, kernel_at, noted_step, put_image, stepped_by}
use Rattle.cluster_steps.specs.Steps.{TakesSo}
use Rattle.cluster_choices.specs.declared.Choice.{Choice}
use Rattle.cluster_choices.specs.declared.Choice.TheVariants as choices
use Rattle.cluster_choices.specs.Acts.{Comes, Expires, FiredAs, Given, Happens, delivery}
use Rattle.cluster_bursts.specs.declared.Burst.{Burst}
use Rattle.cluster_bursts.specs.declared.BurstOutcome.{BurstOutcome}
use Rattle.cluster_bursts.specs.declared.BurstOutcome.TheVariants as outcome
use Rattle.cluster_bursts.specs.declared.Job.{Job}
use Rattle.cluster_bursts.specs.Bursts.{EndsAs, GoesOn, begun_by, came_to, issued, job_at, recorded}
use Rattle.sprite_cluster.specs.Everywhere.{OfAll}
use Rattle.sprite_cluster.specs.Reached.{At, Change, Chose, Began, Took, Lost, Goes, Reached}
use Rattle.sprite_cluster.specs.Steps.{begun_turn}
use Rattle.sprite_cluster.proofs.ReachedLaws.{Lasts}

-- ---- all kernels

module _ (F : ℕ → KernelState → Type 0) where
  pub one_of : (states : List KernelState) (first i : ℕ) (state : KernelState) → OfAll F first states → slice_get states i ≡ Some state → F (first + i) state
  one_of [] first i state h e = absurd (cc)
  one_of (found ∷ states) first zero state h e =
      let same : first ≡ first + 0 = omega arith in
      subst (λ (n : ℕ). F n state) same (subst (F first) (some_is found state e) h.0)
  one_of (found ∷ states) first (suc i) state h e =
      let same : first + 1 + i ≡ first + suc i = omega arith in
      subst (λ (n : ℕ). F n state) same (one_of states (first + 1) i state h.1 e)

  pub all_with : (states : List KernelState) (first i : ℕ) (state : KernelState) → OfAll F first states → F (first + i) state → OfAll F first (slice_set states i state)
  all_with [] first i state h k = tt
  all_with (found ∷ states) first zero state h k = let same : first + 0 ≡ first = omega arith in (subst (λ (n : ℕ). F n state) same k, h.1)
  all_with (found ∷ states) first (suc i) state h k =
      let same : first + suc i ≡ first + 1 + i = omega arith in
      (h.0, all_with states (first + 1) i state h.1 (subst (λ (n : ℕ). F n state) same k))

  pub one_at : (kernel : ℕ) (state : KernelState) (states : List KernelState) → 1 ≤ kernel → OfAll F 1 states → slice_get states (kernel - 1) ≡ Some state → F kernel state
  one_at kernel state states low h e = let same : 1 + (kernel - 1) ≡ kernel = omega (arith, low) in subst (λ (n : ℕ). F n state) same (one_of states 1 (kernel - 1) state h e)

  pub all_at : (kernel : ℕ) (state : KernelState) (states : List KernelState) → 1 ≤ kernel → OfAll F 1 states → F kernel state → OfAll F 1 (slice_set states (kernel - 1) state)
  all_at kernel state states low h k = let same : kernel ≡ 1 + (kernel - 1) = omega (arith, low) in all_with states 1 (kernel - 1) state h (subst (λ (n : ℕ). F n state) same k)

pub all_weaken : (F G : ℕ → KernelState → Type 0) → ((kernel : ℕ) (state : KernelState) → F kernel state → G kernel state) → (states : List KernelState) (first : ℕ) → OfAll F first states → OfAll G first states
all_weaken F G weaken [] first h = tt
all_weaken F G weaken (state ∷ states) first h = (weaken first state h.0, all_weaken F G weaken states (first + 1) h.1)

-- ---- what a kernel takes

-- what doesn't come from another one; a call is one of a program, within its limits
abbrev pub IsOwn : Input → Type 0
IsOwn (inputs.Issued pid number call) = IsWithinLimits call
IsOwn (inputs.Request tx source body) = ⊥
IsOwn (inputs.Replied tx source body) = ⊥
IsOwn input = Unit {0}

own_issued : (o : Option ℕ) (pid : ℕ) (call : Call) (input : Input) → IsWithinLimits call → issued pid call o ≡ Some input → IsOwn input
own_issued None pid call input limits e = absurd (cc)
own_issued (Some number) pid call input limits e = subst IsOwn (some_is (inputs.Issued pid (number + 1) call) input e) limits

pub own_came : (stop : BurstEnd) (kernel : ℕ) (b : Burst) (s : State) (input : Input) → came_to kernel b stop s ≡ Some input → IsOwn input
own_came burst_ends.Call kernel b s input e = own_issued _ b.pid _ input (call_within_limits b.program b.to) e
own_came burst_ends.BadStep kernel b s input e = own_issued _ b.pid _ input tt e
own_came (burst_ends.PageNeeded page) kernel b s input e = subst IsOwn (some_is (inputs.PageNeeded b.pid page) input e) tt
own_came burst_ends.Limit kernel b s input e = absurd (cc)

-- a fact of a kernel that is kept by its steps, where what it takes is such, and by images of its processes
pub record Keeps (F : ℕ → KernelState → Type 0) (Such : Input → KernelState → Type 0) : Type 0 where
  pub steps : (kernel : ℕ) (state : KernelState) (input : Input) (next : TxNo) (step : ℕ) → Such input state → F kernel state → F kernel (kernel_step state input next step).0
  pub images : (kernel pid : ℕ) (image : Machine) (state : KernelState) → F kernel state → F kernel (image_put pid image state)
  pub own : (input : Input) (state : KernelState) → IsOwn input → Such input state

-- whatever it takes
abbrev pub Any : Input → KernelState → Type 0
Any input state = Unit {0}

module _ (F : ℕ → KernelState → Type 0) (Such : Input → KernelState → Type 0) (keeps : Keeps F Such) where
  abbrev All : State → Type 0
  All s = OfAll F 1 s.kernels

  same : (s t : State) → t.kernels ≡ s.kernels → All s → All t
  same s t e h = subst (OfAll F 1) (sym e) h

  -- what the kernel of that number takes is such
  abbrev pub Takes : ℕ → Input → State → Type 0
  Takes kernel input s = (state : KernelState) → kernel_at kernel s ≡ Some state → Such input state

  stepped_in : (o : Option KernelState) (kernel : ℕ) (input : Input) (next : TxNo) (s : State) → kernel_at kernel s ≡ o → 1 ≤ kernel → Takes kernel input s → All s → All (stepped_by kernel o input next s).0
  stepped_in None kernel input next s e low such h = h
  stepped_in (Some found) kernel input next s e low such h =
      all_at F kernel (kernel_step found input next (count_at s.steps kernel)).0 s.kernels low h
      (keeps.steps kernel found input next (count_at s.steps kernel) (such found e) (one_at F kernel found s.kernels low h e))

  image_in : (o : Option KernelState) (kernel pid : ℕ) (image : Machine) (s : State) → kernel_at kernel s ≡ o → 1 ≤ kernel → All s → All (image_put_at kernel pid image o s)
  image_in None kernel pid image s e low h = h
  image_in (Some found) kernel pid image s e low h = all_at F kernel (image_put pid image found) s.kernels low h (keeps.images kernel pid image found (one_at F kernel found s.kernels low h e))

  module _ {L : Type 0} (faults asked : L → ℕ → ℕ → ℕ) (c : Description) (kernel : ℕ) (low : 1 ≤ kernel) where
    took_all : (input : Input) (said : Said) (old new : Wired L) (s t : State) → Takes kernel input s → TakesSo faults asked c kernel input said old new s t → All s → All t
    took_all input said old new s t such so h = same (stepped_by kernel (kernel_at kernel s) input said.next s).0 t (ap (λ (u : State). u.kernels) so.state) (stepped_in (kernel_at kernel s) kernel input said.next s refl low such h)

    took_own : (input : Input) (said : Said) (old new : Wired L) (s t : State) → IsOwn input → TakesSo faults asked c kernel input said old new s t → All s → All t
    took_own input said old new s t is so h = took_all input said old new s t (λ state e. keeps.own input state is) so h

    given : (what : Arrived) (tx : TxNo) (old new : Wired L) (s t : State) → ((input : Input) → what ≡ arrived.Message input → Takes kernel input s) → Given faults asked c kernel tx what old new s t → All s → All t
    given (arrived.Message input) tx old new s t such g h = took_all input g.said old g.between s t (such input refl) g.takes h
    given (arrived.Again from to drawn) tx old new s t such g h = same s t (ap (λ (u : State). u.kernels) g.1) h
    given arrived.Old tx old new s t such g h = same s t (ap (λ (u : State). u.kernels) g.1) h

    came : (o : Option PacketCopy) (number : CopyNo) (old new : Wired L) (s t : State) → ((copy : PacketCopy) (input : Input) → o ≡ Some copy → Brings (arrival old.machine copy) old.machine copy (arrived.Message input) → Takes kernel input s) → Comes faults asked c kernel number o old new s t → All s → All t
    came None number old new s t such g h = same s t (ap (λ (u : State). u.kernels) g.1) h
    came (Some copy) number old new s t such g h =
        let noted : State = noted_step kernel (delivery copy) s in
        given g.came copy.tx g.between new noted t
        (λ input e. such copy input refl (subst (λ (what : Arrived). Brings (arrival old.machine copy) old.machine copy what) e g.arrives.brings)) g.given (same s noted refl h)

    fired : (what : Expired) (tx : TxNo) (old new : Wired L) (s t : State) → FiredAs faults asked c kernel tx what old new s t → All s → All t
    fired (expired.Resent fates) tx old new s t g h = same s t (ap (λ (u : State). u.kernels) g.1) h
    fired (expired.GivenUp before now) tx old new s t g h = took_own (inputs.GaveUp tx) g.said old new _ t tt g.takes h

    expires : (b : Bool) (tx : TxNo) (old new : Wired L) (s t : State) → Expires faults asked c kernel tx b old new s t → All s → All t
    expires false tx old new s t g h = same s t (ap (λ (u : State). u.kernels) g.1) h
    expires true tx old new s t g h = fired g.what tx g.between new s t g.then_so h

    -- what comes by a choice is such: whatever a copy brings that is in flight to the kernel
    abbrev pub Brought : Choice → Wired L → State → Type 0
    Brought (choices.Deliver number) old s = (copy : PacketCopy) (input : Input) → copy_to kernel old.machine number ≡ Some copy → Brings (arrival old.machine copy) old.machine copy (arrived.Message input) → Takes kernel input s
    Brought choice old s = Unit {0}

    happened : (choice : Choice) (old new : Wired L) (s t : State) → Brought choice old s → Happens faults asked c kernel choice old new s t → All s → All t
    happened (choices.Deliver number) old new s t such g h = came (copy_to kernel old.machine number) number old new s t such g h
    happened (choices.Expire tx) old new s t such g h = expires (may_fire kernel old.machine tx) tx old new s t g h
    happened (choices.WriteBack file block) old new s t such g h = took_own (inputs.Due file block) g.said old new s t tt g.takes h

    -- bursts

    went_on : (o : Option Input) (what : BurstOutcome) (old new : Wired L) (s t : State) → ((input : Input) → o ≡ Some input → IsOwn input) → GoesOn faults asked c kernel o what old new s t → All s → All t
    went_on (Some input) (outcome.Took said) old new s t is g h = took_own input said old new s t (is input refl) g h
    went_on (Some input) outcome.Done old new s t is g h = absurd g
    went_on (Some input) outcome.Stale old new s t is g h = absurd g
    went_on None outcome.Done old new s t is g h = same s t (ap (λ (u : State). u.kernels) g.1) h
    went_on None (outcome.Took said) old new s t is g h = absurd g
    went_on None outcome.Stale old new s t is g h = absurd g

    -- one that counted
    counted : (what : BurstOutcome) (b : Burst) (old new : Wired L) (s t : State) → GoesOn faults asked c kernel (came_to kernel b b.end (recorded kernel b s)) what old new (put_image kernel b.pid b.to (recorded kernel b s)) t → All s → All t
    counted what b old new s t g h =
        let there : State = recorded kernel b s in
        went_on (came_to kernel b b.end there) what old new (put_image kernel b.pid b.to there) t (own_came b.end kernel b there) g
        (image_in (kernel_at kernel there) kernel b.pid b.to there refl low (same s there refl h))

    ended : (what : BurstOutcome) (b : Burst) (old new : Wired L) (s t : State) → EndsAs faults asked c kernel b what old new s t → All s → All t
    ended outcome.Stale b old new s t g h = same s t (ap (λ (u : State). u.kernels) g.2) h
    ended outcome.Done b old new s t g h = counted outcome.Done b old new s t g.1 h
    ended (outcome.Took said) b old new s t g h = counted (outcome.Took said) b old new s t g.1 h

    begun_in : (o : Option Job) (s : State) → All s → All (begun_by kernel o s)
    begun_in None s h = h
    begun_in (Some job) s h = h

    brought_begun : (choice : Choice) (old : Wired L) (s : State) → Brought choice old s → Brought choice old (begun_turn s)
    brought_begun (choices.Deliver number) old s such = such
    brought_begun (choices.Expire tx) old s such = tt
    brought_begun (choices.WriteBack file block) old s such = tt

  -- ---- a change

  module _ {L : Type 0} (faults asked : L → ℕ → ℕ → ℕ) (c : Description) where
    -- what comes by it is such
    abbrev pub ChangeBrings : Change → At L → Type 0
    ChangeBrings (Chose kernel choice) old = (low : 1 ≤ kernel) → Brought faults asked c kernel low choice old.wire old.state
    ChangeBrings change old = Unit {0}

    pub changed : (change : Change) (old now : At L) → ChangeBrings change old → Goes faults asked c change old now → All old.state → All now.state
    changed (Chose kernel choice) old now such goes h = same goes.changes.turn now.state (ap (λ (s : State). s.kernels) goes.changes.stands)
        (happened faults asked c kernel goes.low choice old.wire now.wire (begun_turn old.state) goes.changes.turn (brought_begun faults asked c kernel goes.low choice old.wire old.state (such goes.low)) goes.changes.happens (same old.state (begun_turn old.state) refl h))
    changed (Began kernel) old now such goes h = subst All (sym goes.changes.begun) (begun_in faults asked c kernel goes.low (job_at c kernel old.state) old.state h)
    changed (Took kernel b) old now such goes h = same goes.changes.turn now.state (ap (λ (s : State). s.kernels) goes.changes.stands)
        (ended faults asked c kernel goes.low goes.changes.ends.what b old.wire now.wire (begun_turn old.state) goes.changes.turn goes.changes.ends.ends (same old.state (begun_turn old.state) refl h))
    changed (Lost kernel b) old now such goes h =
        ended faults asked c kernel goes.low goes.changes.ends.what b old.wire now.wire (begun_turn old.state) now.state goes.changes.ends.ends (same old.state (begun_turn old.state) refl h)

-- ---- the boot

-- each kernel of a description has the fact as it begins
abbrev pub BeginsSo : Description → (ℕ → KernelState → Type 0) → Type 0
BeginsSo c F = (serves : List Path) (kernel : ℕ) (state : KernelState) → IsKernel c kernel serves state → F kernel state

pub booted : (F : ℕ → KernelState → Type 0) (c : Description) → BeginsSo c F → (lines : List KernelLine) (states : List KernelState) (kernel : ℕ) → AreKernels c kernel lines states → OfAll F kernel states
booted F c boots [] [] kernel e = tt
booted F c boots (line ∷ lines) (state ∷ states) kernel e = (boots line.serves kernel state e.0, booted F c boots lines states (kernel + 1) e.1)
booted F c boots [] (state ∷ states) kernel e = absurd e
booted F c boots (line ∷ lines) [] kernel e = absurd e

-- ---- each reached cluster

-- what comes to the kernels of reached clusters is such
abbrev pub AllSuch : {L : Type 0} → (L → ℕ → ℕ → ℕ) → (L → ℕ → ℕ → ℕ) → Description → L → (Input → KernelState → Type 0) → Type 0
AllSuch {L} faults asked c begun Such =
    (kernel : ℕ) (old : At L) → 1 ≤ kernel → Reached faults asked c begun old → (copy : PacketCopy) (input : Input) → Brings (arrival old.wire.machine copy) old.wire.machine copy (arrived.Message input) → (state : KernelState) → kernel_at kernel old.state ≡ Some state → Such input state

module _ {L : Type 0} (faults asked : L → ℕ → ℕ → ℕ) (c : Description) (begun : L) (F : ℕ → KernelState → Type 0) (Such : Input → KernelState → Type 0) (keeps : Keeps F Such) (boots : BeginsSo c F) (all : AllSuch faults asked c begun Such) where
  choice_brings : (kernel : ℕ) (choice : Choice) (old : At L) → Reached faults asked c begun old → ChangeBrings F Such keeps faults asked c (Chose kernel choice) old
  choice_brings kernel (choices.Deliver number) old reached = λ low copy input there brings state e. all kernel old low reached copy input brings state e
  choice_brings kernel (choices.Expire tx) old reached = λ low. tt
  choice_brings kernel (choices.WriteBack file block) old reached = λ low. tt

  pub kernels_last : Lasts faults asked c begun (λ (at : At L). OfAll F 1 at.state.kernels)
  kernels_last = record {
    begins = λ first b. booted F c boots c.kernels first.state.kernels 1 b.boots.kernels_are;
    chose = λ kernel choice old now reached goes h. changed F Such keeps faults asked c (Chose kernel choice) old now (choice_brings kernel choice old reached) goes h;
    began = λ kernel old now reached goes h. changed F Such keeps faults asked c (Began kernel) old now tt goes h;
    took = λ kernel b old now reached goes h. changed F Such keeps faults asked c (Took kernel b) old now tt goes h;
    lost = λ kernel b old now reached goes h. changed F Such keeps faults asked c (Lost kernel b) old now tt goes h;
  }
