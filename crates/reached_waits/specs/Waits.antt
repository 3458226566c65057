-- What the operations on files of clients of reached clusters wait for.
use Rattle.std.specs.Prelude.{ℕ}
use Rattle.unix_calls.specs.declared.Description.{Description}
use Rattle.client_file_tables.specs.declared.client_files.ClientFiles.{ClientFiles}
use Rattle.client_facts.specs.FileFacts.{FillersHaveTurns, IsAtRest, LocksAreHeld, OneOperationEach, QueuedAreWaiting, QueuedLocksAreHeld, QueuesAreOnce, TurnsAreOnce, WaitersAreQueued}
use Rattle.lock_facts.specs.WaitFacts.{WaitersWantLocks}
use Rattle.pending_laws.specs.Waits.{SyncsWait}
use Rattle.reached_clients.specs.Clients.{OfClients}
use Rattle.sprite_cluster.specs.Reached.{At, Reached}

-- each process has one operation at most, which waits for something: no sync looks, and who waits for a lock wants that of a stream; what waits
-- for anything but a lock has that of its stream; who waits for one stands once in its queue, in which nobody else stands, and that lock is
-- another's; who needs blocks has one turn to fill them; and nothing could go on, and nothing is to be told
pub record WaitsForSomething (s : ClientFiles) : Type 0 where
  pub one_each : OneOperationEach s
  pub syncs : SyncsWait s
  pub wants : WaitersWantLocks s
  pub held : LocksAreHeld s
  pub queued : WaitersAreQueued s
  pub queued_once : QueuesAreOnce s
  pub queued_wait : QueuedAreWaiting s
  pub kept_out : QueuedLocksAreHeld s
  pub turns : FillersHaveTurns s
  pub turns_once : TurnsAreOnce s
  pub rest : IsAtRest s

-- in each reached cluster this is so of each client
abbrev pub OperationsStayWaiting : {L : Type 0} → (L → ℕ → ℕ → ℕ) → (L → ℕ → ℕ → ℕ) → Type 0
OperationsStayWaiting {L} faults asked = (c : Description) (begun : L) (now : At L) → Reached faults asked c begun now → OfClients (λ kernel client. WaitsForSomething client.files) 1 now.state.kernels
