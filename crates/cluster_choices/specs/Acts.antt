-- What happens at a choice of a kernel.
use Rattle.std.specs.Prelude.{◌≡◌, ℕ, Bool, true, false, ◌&&◌, List, Option, Some, None}
use Rattle.sprite_ids.specs.declared.CopyNo.{CopyNo}
use Rattle.sprite_ids.specs.declared.TxNo.{TxNo}
use Rattle.link_plan.specs.declared.Fate.{Fate}
use Rattle.kernel_rpc.specs.Machine.{may_be_silent}
use Rattle.kernel_rpc.specs.Sound.{Wired}
use Rattle.kernel_rpc.specs.declared.Expired.{Expired}
use Rattle.kernel_rpc.specs.declared.Expired.TheVariants as expired
use Rattle.kernel_rpc.specs.declared.PacketCopy.{PacketCopy}
use Rattle.kernel_steps.specs.declared.Input.{Input}
use Rattle.kernel_steps.specs.declared.Input.TheVariants as inputs
use Rattle.unix_calls.specs.declared.About.{About}
use Rattle.unix_calls.specs.declared.Description.{Description}
use Rattle.unix_calls.specs.declared.Event.{Event}
use Rattle.unix_calls.specs.declared.Event.TheVariants as events
use Rattle.cluster_wire.specs.declared.Arrived.{Arrived}
use Rattle.cluster_wire.specs.declared.Arrived.TheVariants as arrived
use Rattle.cluster_wire.specs.declared.Said.{Said}
use Rattle.cluster_wire.specs.Arriving.{Arrives, SilentIf, asks_prefix, copy_to}
use Rattle.cluster_wire.specs.Firing.{Fires, may_fire}
use Rattle.cluster_wire.specs.Noted.{faulted, faulted_all}
use Rattle.cluster_kernels.specs.declared.State.{State}
use Rattle.cluster_kernels.specs.States.{noted_step}
use Rattle.cluster_steps.specs.Steps.{TakesSo}
use Rattle.cluster_choices.specs.declared.choice.Choice.{Choice}
use Rattle.cluster_choices.specs.declared.choice.Choice.TheVariants.{Deliver, Expire, WriteBack}

-- the call of a process that a packet names
abbrev pub named : Option (ℕ × ℕ) → Option About
named None = None
named (Some call) = Some (record { pid = call.0; number = call.1 })

-- the record that a copy came
abbrev pub delivery : PacketCopy → Event
delivery copy = events.Deliver copy.tx copy.from copy.reply (named copy.about)

-- the faults of packets that the kernel sent again are told
abbrev pub resent : ℕ → List (ℕ × Fate) → State → State
resent kernel fates s = record s { told = faulted_all kernel fates s.told }

-- the kernel takes an input, and says something
pub record Takes {L : Type 0} (faults asked : L → ℕ → ℕ → ℕ) (c : Description) (kernel : ℕ) (input : Input) (old new : Wired L) (s t : State) : Type 0 where
  pub said : Said
  pub takes : TakesSo faults asked c kernel input said old new s t

-- the kernel takes a message of a call that came for the first time; where it was asked for a prefix and hasn't answered, it goes silent
pub record TakesMessage {L : Type 0} (faults asked : L → ℕ → ℕ → ℕ) (c : Description) (kernel : ℕ) (tx : TxNo) (input : Input) (old new : Wired L) (s t : State) : Type 0 where
  pub said : Said
  pub between : Wired L
  pub takes : TakesSo faults asked c kernel input said old between s t
  pub silent : SilentIf faults asked (asks_prefix input && may_be_silent between.machine tx kernel) tx kernel between new

-- what becomes of what a copy brought: the kernel takes a message, the fault of a reply that went out again is told, and else nothing
-- is done
abbrev pub Given : {L : Type 0} → (L → ℕ → ℕ → ℕ) → (L → ℕ → ℕ → ℕ) → Description → ℕ → TxNo → Arrived → Wired L → Wired L → State → State → Type 0
Given faults asked c kernel tx (arrived.Message input) old new s t = TakesMessage faults asked c kernel tx input old new s t
Given faults asked c kernel tx (arrived.Again from to what) old new s t = (new ≡ old) × (t ≡ record s { told = faulted from to what s.told })
Given faults asked c kernel tx arrived.Old old new s t = (new ≡ old) × (t ≡ s)

-- a copy in flight comes to the kernel
pub record ComesSo {L : Type 0} (faults asked : L → ℕ → ℕ → ℕ) (c : Description) (kernel : ℕ) (number : CopyNo) (copy : PacketCopy) (old new : Wired L) (s t : State) : Type 0 where
  pub came : Arrived
  pub between : Wired L
  pub arrives : Arrives faults asked number copy came old between
  pub given : Given faults asked c kernel copy.tx came between new s t

-- a looked-up copy comes, and that is recorded; where it isn't in flight to the kernel, nothing happens
abbrev pub Comes : {L : Type 0} → (L → ℕ → ℕ → ℕ) → (L → ℕ → ℕ → ℕ) → Description → ℕ → CopyNo → Option PacketCopy → Wired L → Wired L → State → State → Type 0
Comes faults asked c kernel number None old new s t = (new ≡ old) × (t ≡ s)
Comes faults asked c kernel number (Some copy) old new s t = ComesSo faults asked c kernel number copy old new (noted_step kernel (delivery copy) s) t

-- what becomes of a call whose timer fired: that is recorded, and whether it was the last time; a call that was given up is told to the
-- kernel, and of one that was sent again the faults of its packets are told
abbrev pub FiredAs : {L : Type 0} → (L → ℕ → ℕ → ℕ) → (L → ℕ → ℕ → ℕ) → Description → ℕ → TxNo → Expired → Wired L → Wired L → State → State → Type 0
FiredAs faults asked c kernel tx (expired.Resent fates) old new s t = (new ≡ old) × (t ≡ resent kernel fates (noted_step kernel (events.Expire tx false) s))
FiredAs faults asked c kernel tx (expired.GivenUp before now) old new s t = Takes faults asked c kernel (inputs.GaveUp tx) old new (noted_step kernel (events.Expire tx true) s) t

-- the timer of a call of the kernel fires
pub record FiresSo {L : Type 0} (faults asked : L → ℕ → ℕ → ℕ) (c : Description) (kernel : ℕ) (tx : TxNo) (old new : Wired L) (s t : State) : Type 0 where
  pub what : Expired
  pub between : Wired L
  pub fires : Fires faults asked kernel tx what old between
  pub then_so : FiredAs faults asked c kernel tx what between new s t

-- the timer of a call fires, where it may; else nothing happens
abbrev pub Expires : {L : Type 0} → (L → ℕ → ℕ → ℕ) → (L → ℕ → ℕ → ℕ) → Description → ℕ → TxNo → Bool → Wired L → Wired L → State → State → Type 0
Expires faults asked c kernel tx false old new s t = (new ≡ old) × (t ≡ s)
Expires faults asked c kernel tx true old new s t = FiresSo faults asked c kernel tx old new s t

-- a choice happens at the kernel: a copy comes, exactly where it is in flight to it; a timer fires, exactly where the call is the
-- kernel's and its timer may; or the kernel takes that a block is due
abbrev pub Happens : {L : Type 0} → (L → ℕ → ℕ → ℕ) → (L → ℕ → ℕ → ℕ) → Description → ℕ → Choice → Wired L → Wired L → State → State → Type 0
Happens faults asked c kernel (Deliver number) old new s t = Comes faults asked c kernel number (copy_to kernel old.machine number) old new s t
Happens faults asked c kernel (Expire tx) old new s t = Expires faults asked c kernel tx (may_fire kernel old.machine tx) old new s t
Happens faults asked c kernel (WriteBack file block) old new s t = Takes faults asked c kernel (inputs.Due file block) old new s t
