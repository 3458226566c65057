-- What is true of each client of a reached cluster.
use Rattle.std.specs.Prelude.{◌≡◌, ℕ, true, List, Some}
use Rattle.sprite_ids.specs.declared.CopyNo.{CopyNo}
use Rattle.sprite_ids.specs.declared.TxNo.{TxNo}
use Rattle.kernel_rpc.specs.declared.PacketCopy.{PacketCopy}
use Rattle.kernel_rpc.specs.Machine.{arrival}
use Rattle.kernel_steps.specs.declared.Input.{Input}
use Rattle.unix_calls.specs.declared.Description.{Description}
use Rattle.client_homes.specs.declared.ClientProcs.{ClientProcs}
use Rattle.client_procs.specs.CanTake.{can_take}
use Rattle.client_procs.specs.Steps.{begins_step, takes}
use Rattle.client_procs.specs.Turning.{goes_on, is_quiet}
use Rattle.cluster_wire.specs.declared.Arrived.TheVariants as arrived
use Rattle.cluster_wire.specs.Arriving.{Brings, copy_to}
use Rattle.cluster_kernels.specs.declared.KernelState.{KernelState}
use Rattle.cluster_kernels.specs.declared.KernelState.TheVariants as kernels
use Rattle.cluster_kernels.specs.declared.State.{State}
use Rattle.cluster_kernels.specs.States.{can_take_at}
use Rattle.cluster_choices.specs.declared.Choice.TheVariants as choices
use Rattle.client_constants.specs.Constants.{KnowsItsCluster}
use Rattle.client_facts.specs.HomeFacts.{HomeIsOwn}
use Rattle.client_walks.specs.Hands.{brought}
use Rattle.client_walks.specs.PlacesOnce.{InHand, PlacesAreOnce}
use Rattle.client_rounds.specs.OneThing.{OneThingEach}
use Rattle.lock_facts.specs.TurnFacts.{KeepsTurnFacts}
use Rattle.sprite_cluster.specs.Everywhere.{OfAll}
use Rattle.sprite_cluster.specs.Reached.{At, Chose, Goes, Reached}

-- a fact of a client and of its number, of a kernel that is one
abbrev pub OfClient : (ℕ → ClientProcs → Type 0) → ℕ → KernelState → Type 0
OfClient P kernel (kernels.Client client) = P kernel client
OfClient P kernel (kernels.Server server) = Unit {0}

-- and of all kernels from that number on
abbrev pub OfClients : (ℕ → ClientProcs → Type 0) → ℕ → List KernelState → Type 0
OfClients P kernel states = OfAll (OfClient P) kernel states

-- each client of a reached cluster knows its number, the kernels and programs of its cluster, where pages are kept, and that it is the
-- home of its processes
abbrev pub ClientsKnowTheirCluster : {L : Type 0} → (L → ℕ → ℕ → ℕ) → (L → ℕ → ℕ → ℕ) → Type 0
ClientsKnowTheirCluster {L} faults asked = (c : Description) (begun : L) (now : At L) → Reached faults asked c begun now → OfClients (KnowsItsCluster c) 1 now.state.kernels

-- so the home in each is the kernel's own
abbrev pub HomesAreOwn : {L : Type 0} → (L → ℕ → ℕ → ℕ) → (L → ℕ → ℕ → ℕ) → Type 0
HomesAreOwn {L} faults asked = (c : Description) (begun : L) (now : At L) → Reached faults asked c begun now → OfClients (λ kernel client. HomeIsOwn client) 1 now.state.kernels

-- each process stands in at most one place of each client
abbrev pub PlacesAreOnceAtEach : State → Type 0
PlacesAreOnceAtEach s = OfClients (λ kernel client. PlacesAreOnce client) 1 s.kernels

-- what a client can take brings what is new there: a process that a request brings was born, where this is its home, and the child that an
-- answered `fork` brings is neither here nor leaves besides
abbrev pub WhatIsTakenIsNew : Type 0
WhatIsTakenIsNew = (s : ClientProcs) (input : Input) → can_take input s ≡ true → InHand (brought input s) s

-- and what a copy brings that comes to a kernel by a change, that the kernel could take before it
abbrev pub WhatComesCanBeTaken : {L : Type 0} → (L → ℕ → ℕ → ℕ) → (L → ℕ → ℕ → ℕ) → Type 0
WhatComesCanBeTaken {L} faults asked =
    (c : Description) (kernel : ℕ) (number : CopyNo) (old now : At L) (copy : PacketCopy) (input : Input) → Goes faults asked c (Chose kernel (choices.Deliver number)) old now → copy_to kernel old.wire.machine number ≡ Some copy
    → Brings (arrival old.wire.machine copy) old.wire.machine copy (arrived.Message input) → can_take_at kernel input old.state ≡ true

-- so in each reached cluster a process stands in at most one place of each client
abbrev pub PlacesStayOnce : {L : Type 0} → (L → ℕ → ℕ → ℕ) → (L → ℕ → ℕ → ℕ) → Type 0
PlacesStayOnce {L} faults asked = (c : Description) (begun : L) (now : At L) → Reached faults asked c begun now → PlacesAreOnceAtEach now.state

-- one thing at most is on its way to each process of a client, and so the rounds of each step are enough that takes what is new there:
-- nothing is ready behind them, no reply is to be given and no report to be taken
pub record StepsEndQuiet (s : ClientProcs) : Type 0 where
  pub one : OneThingEach s
  pub quiet : (input : Input) (next : TxNo) (step : ℕ) → InHand (brought input s) s → is_quiet (goes_on (takes input (begins_step next step s))) ≡ true

-- so it is in each client of each reached cluster
abbrev pub RoundsStayEnough : {L : Type 0} → (L → ℕ → ℕ → ℕ) → (L → ℕ → ℕ → ℕ) → Type 0
RoundsStayEnough {L} faults asked = (c : Description) (begun : L) (now : At L) → Reached faults asked c begun now → OfClients (λ kernel client. StepsEndQuiet client) 1 now.state.kernels

-- and so are the locks of its streams, the queues for them, and the order in which its operations fill blocks
abbrev pub TurnsStayInOrder : {L : Type 0} → (L → ℕ → ℕ → ℕ) → (L → ℕ → ℕ → ℕ) → Type 0
TurnsStayInOrder {L} faults asked = (c : Description) (begun : L) (now : At L) → Reached faults asked c begun now → OfClients (λ kernel client. KeepsTurnFacts client.files) 1 now.state.kernels
