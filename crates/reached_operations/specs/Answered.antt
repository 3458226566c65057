-- What comes to the clients of reached clusters fits what their operations on files wait for, and what is kept of these therefore.
use Rattle.std.specs.Prelude.{◌≡◌, ℕ, ◌≤◌, true, Some}
use Rattle.sprite_ids.specs.declared.TxNo.{TxNo}
use Rattle.kernel_rpc.specs.declared.call.Call.{Call}
use Rattle.kernel_rpc.specs.declared.PacketCopy.{PacketCopy}
use Rattle.kernel_rpc.specs.Machine.{arrival, call_of, is_last}
use Rattle.kernel_steps.specs.declared.Input.{Input}
use Rattle.kernel_steps.specs.declared.Input.TheVariants as inputs
use Rattle.unix_calls.specs.declared.Description.{Description}
use Rattle.client_homes.specs.declared.ClientProcs.{ClientProcs}
use Rattle.cluster_wire.specs.declared.Arrived.TheVariants as arrived
use Rattle.cluster_wire.specs.Arriving.{Brings}
use Rattle.cluster_wire.specs.Goings.{next_of}
use Rattle.cluster_kernels.specs.States.{client_at}
use Rattle.file_walks.specs.Fits.{FitsItsCall}
use Rattle.file_facts.specs.CallFacts.{KeepsCallFacts}
use Rattle.reached_clients.specs.Clients.{OfClients}
use Rattle.sprite_cluster.specs.Reached.{At, Reached}

-- in each reached cluster, what a copy brings a client fits what its operation waits for whose call it is
abbrev pub WhatComesFits : {L : Type 0} → (L → ℕ → ℕ → ℕ) → (L → ℕ → ℕ → ℕ) → Type 0
WhatComesFits {L} faults asked =
    (c : Description) (begun : L) (now : At L) (kernel : ℕ) (client : ClientProcs) (copy : PacketCopy) (input : Input) → 1 ≤ kernel → Reached faults asked c begun now → client_at kernel now.state ≡ Some client
    → Brings (arrival now.wire.machine copy) now.wire.machine copy (arrived.Message input) → FitsItsCall input client.files

-- and so does it that a call is given up, whose next lost try is its last one
abbrev pub WhatIsGivenUpFits : {L : Type 0} → (L → ℕ → ℕ → ℕ) → (L → ℕ → ℕ → ℕ) → Type 0
WhatIsGivenUpFits {L} faults asked =
    (c : Description) (begun : L) (now : At L) (kernel : ℕ) (client : ClientProcs) (tx : TxNo) (call : Call) → 1 ≤ kernel → Reached faults asked c begun now → client_at kernel now.state ≡ Some client
    → call_of now.wire.machine tx ≡ Some call → is_last call ≡ true → FitsItsCall (inputs.GaveUp tx) client.files

-- so in each reached cluster, each client keeps the facts of the remote calls of its operations on files
abbrev pub CallFactsStay : {L : Type 0} → (L → ℕ → ℕ → ℕ) → (L → ℕ → ℕ → ℕ) → Type 0
CallFactsStay {L} faults asked = (c : Description) (begun : L) (now : At L) → Reached faults asked c begun now → OfClients (λ kernel client. KeepsCallFacts (next_of now.wire.machine) client.files) 1 now.state.kernels
