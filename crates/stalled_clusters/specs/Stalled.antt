-- A cluster that can't go on has only waits, gets and asks out: what is left of a run that stands stalled.
use Rattle.std.specs.Prelude.{◌≡◌, ◌≤◌, ℕ, [], Some}
use Rattle.sprite_ids.specs.declared.Finish.TheVariants as finish
use Rattle.unix_calls.specs.declared.Description.{Description}
use Rattle.unix_calls.specs.Lawful.{Lawful}
use Rattle.client_homes.specs.declared.ClientProcs.{ClientProcs}
use Rattle.cluster_kernels.specs.States.{client_at}
use Rattle.sprite_cluster.specs.Finishing.{finish_of}
use Rattle.sprite_cluster.specs.Reached.{At, Reached}
use Rattle.stall_laws.specs.Clients.{WaitsAndAsksAlone}

-- ---- what is left of remote calls

-- where a run of a lawful description stands stalled, nothing is left at servers, and no callback is out; and all remote calls that are
-- unfinished are `wait`s and asks of pseudo-devices, each kept at its client
abbrev pub StalledHasOnlyWaits : {L : Type 0} → (L → ℕ → ℕ → ℕ) → (L → ℕ → ℕ → ℕ) → Type 0
StalledHasOnlyWaits {L} faults asked =
    (c : Description) (begun : L) (now : At L) → Lawful c → Reached faults asked c begun now → finish_of c now.trace now.wire.machine now.state ≡ finish.Stalled → WaitsAndAsksAlone now

-- ---- and of operations on files

-- then no operation on files is pending at any client
abbrev pub StalledHasNoOperation : {L : Type 0} → (L → ℕ → ℕ → ℕ) → (L → ℕ → ℕ → ℕ) → Type 0
StalledHasNoOperation {L} faults asked =
    (c : Description) (begun : L) (now : At L) (kernel : ℕ) (client : ClientProcs) → Lawful c → Reached faults asked c begun now → finish_of c now.trace now.wire.machine now.state ≡ finish.Stalled
    → 1 ≤ kernel → client_at kernel now.state ≡ Some client → client.files.pending ≡ []
