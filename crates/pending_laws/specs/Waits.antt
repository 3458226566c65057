-- What the operations of a client's files' side wait for.
use Rattle.std.specs.Prelude.{◌≡◌, ℕ, Bool, true, false, [], None}
use Rattle.std.specs.List.{AllByRecursion, list_all}
use Rattle.client_file_tables.specs.declared.client_files.ClientFiles.{ClientFiles}
use Rattle.client_file_tables.specs.declared.pending.Pending.{Pending}
use Rattle.client_file_tables.specs.declared.pending.Pending.TheVariants as operations
use Rattle.client_file_tables.specs.declared.states.SyncState.{SyncState}
use Rattle.client_file_tables.specs.declared.states.SyncState.TheVariants as syncs
use Rattle.client_facts.specs.FileFacts.{FillersHaveTurns, NoneElseHoldsLocks, QueuedLocksAreHeld, TurnsAreInOrder, WaitersAreQueued, own_call, waited_write_back}
use Rattle.lock_facts.specs.WaitFacts.{WaitersWantLocks}

-- whether a sync waits for an answer: it doesn't where it looks
abbrev pub sync_waits : SyncState → Bool
sync_waits syncs.Looking = false
sync_waits state = true

-- whether an operation is no sync that looks at its blocks
abbrev pub never_looks : Pending → Bool
never_looks (operations.Sync call) = sync_waits call.state
never_looks operation = true

abbrev pub row_never_looks : ℕ × Pending → Bool
row_never_looks row = never_looks row.1

-- no sync looks: each waits for the answer to a write-back
abbrev pub SyncsWait : ClientFiles → Type 0
SyncsWait s = list_all row_never_looks s.pending ≡ true

-- no sync looks; who waits for a lock waits for a stream's, and stands in its queue; a lock with a queue is another's, and who has a lock has
-- an operation that has it; who needs blocks has a turn, and the first of these waits for room or for a block
pub record WaitFacts (s : ClientFiles) : Type 0 where
  pub syncs : SyncsWait s
  pub wants : WaitersWantLocks s
  pub queued : WaitersAreQueued s
  pub kept_out : QueuedLocksAreHeld s
  pub none_else : NoneElseHoldsLocks s
  pub turns : FillersHaveTurns s
  pub in_order : TurnsAreInOrder s

-- an operation waits for the answer to no remote call, neither to one of its own nor to a write-back
pub record AwaitsNoCall (row : ℕ × Pending) : Type 0 where
  pub own : own_call row.1 ≡ None
  pub back : waited_write_back row.1 ≡ None

-- where no operation waits for a remote call, none is pending: who waits for a lock or for a turn waits for one that waits for a remote call
abbrev pub NothingIsPending : Type 0
NothingIsPending = (s : ClientFiles) → WaitFacts s → AllByRecursion AwaitsNoCall s.pending → s.pending ≡ []
