-- Who has the locks of streams at clients of reached clusters.
use Rattle.std.specs.Prelude.{ℕ}
use Rattle.unix_calls.specs.declared.Description.{Description}
use Rattle.client_facts.specs.FileFacts.{NoneElseHoldsLocks}
use Rattle.client_facts.specs.ProcFacts.{UnmovedAreHeld}
use Rattle.move_facts.specs.MoveFacts.{StreamsMoveInTurn}
use Rattle.client_homes.specs.declared.ClientProcs.{ClientProcs}
use Rattle.reached_clients.specs.Clients.{OfClients}
use Rattle.sprite_cluster.specs.Reached.{At, Reached}

-- who has a stream's lock has an operation that has it; and a process that leaves has the descriptors of its streams until they move, one after
-- the other
pub record LocksAreForOperations (s : ClientProcs) : Type 0 where
  pub none_else : NoneElseHoldsLocks s.files
  pub moves : StreamsMoveInTurn s
  pub unmoved : UnmovedAreHeld s

-- in each reached cluster this is so of each client
abbrev pub LocksStayHeld : {L : Type 0} → (L → ℕ → ℕ → ℕ) → (L → ℕ → ℕ → ℕ) → Type 0
LocksStayHeld {L} faults asked = (c : Description) (begun : L) (now : At L) → Reached faults asked c begun now → OfClients (λ kernel client. LocksAreForOperations client) 1 now.state.kernels
