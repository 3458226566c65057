-- A small state of the files' side in which much waits, and edits of it that lack one fact each.
use Rattle.std.specs.Prelude.{ℕ, true, false, List, [], ◌∷◌, Option, Some, None, slice_set}
use Rattle.sprite_ids.specs.declared.BlockNo.{BlockNo}
use Rattle.sprite_ids.specs.declared.FileId.{FileId}
use Rattle.sprite_ids.specs.declared.Mode.TheVariants.{Both}
use Rattle.sprite_ids.specs.declared.Object.TheVariants.{File}
use Rattle.sprite_ids.specs.declared.StreamNo.{StreamNo}
use Rattle.sprite_ids.specs.declared.TxNo.{TxNo}
use Rattle.kernel_steps.specs.Outs.{started}
use Rattle.block_cache.specs.declared.BlockKey.{BlockKey}
use Rattle.block_cache.specs.declared.Block.{Block}
use Rattle.block_cache.specs.Held.{Held}
use Rattle.stream_table.specs.declared.Place.TheVariants.{Local}
use Rattle.stream_table.specs.declared.Stream.{Stream}
use Rattle.stream_table.specs.Entries.{Entry}
use Rattle.stream_table.specs.Owners.{Owner, nothing}
use Rattle.write_delay.specs.declared.DelayedBlock.{DelayedBlock}
use Rattle.client_file_tables.specs.declared.client_files.ClientFiles.{ClientFiles}
use Rattle.client_file_tables.specs.declared.pending.Pending.{Pending}
use Rattle.client_file_tables.specs.declared.pending.Pending.TheVariants as operations
use Rattle.client_file_tables.specs.declared.states.DataState.{DataState}
use Rattle.client_file_tables.specs.declared.states.DataState.TheVariants as states
use Rattle.client_file_tables.specs.declared.states.SyncState.TheVariants as syncs
use Rattle.client_file_tables.specs.declared.works.DataKind.TheVariants.{Read}
use Rattle.client_file_tables.specs.declared.works.WriteBackOut.{WriteBackOut}
use Rattle.client_facts.specs.FileFacts as facts

abbrev pub the_file : FileId
the_file = record { server = 1; number = 1 }

abbrev pub block : ℕ → BlockNo
block number = record { 0 = number }

abbrev pub call : ℕ → TxNo
call number = record { 0 = number }

abbrev pub stream : ℕ → StreamNo
stream number = record { kernel = 2; number = number }

abbrev pub opened : Stream
opened = record { object = File the_file; mode = Both; place = Local 0; grants = 1; append = false }

-- an open stream, whose lock that process has
abbrev pub held_by : ℕ → Option ℕ → Entry
held_by number holder = record { number = stream number; stream = Some opened; holder = holder }

-- a process whose descriptor 0 leads to that stream
abbrev pub with_stream : ℕ → ℕ → Owner
with_stream pid number = record { pid = pid; numbers = slice_set nothing 0 (Some (stream number)) }

abbrev pub reading : ℕ → DataState → Pending
reading number state = operations.Data (record { number = 3; fd = 0; kind = Read 4096; stream = stream number; file = the_file; state = state })

abbrev pub syncing : Pending
syncing = operations.Sync (record { number = 3; fd = 0; file = the_file; todo = block 1 ∷ []; state = syncs.WaitOwn (call 8) })

abbrev pub key : ℕ → BlockKey
key number = record { file = the_file; block = block number }

abbrev pub dirty : ℕ → ℕ → BlockKey × Block
dirty number last = (key number, record { bytes = []; dirty = Some last })

abbrev pub delayed : ℕ → DelayedBlock × ℕ
delayed number = (record { file = the_file; block = block number }, 5)

abbrev pub sent : WriteBackOut
sent = record { file = the_file; block = block 1; stamp = 1; number = 1 }

abbrev pub cached : Held
cached = record { size = 8; files = (the_file, record { stamp = 1; version = 1; size = 8192; on = true }) ∷ []; blocks = dirty 1 1 ∷ dirty 2 2 ∷ []; last = 2 }

-- one process fetches a block, one waits for the first one's lock, one waits for its turn by another stream, and one syncs
abbrev pub busy : ClientFiles
busy = record {
  kernel = 2;
  servers = 1 ∷ [];
  limit = 4194304;
  prefixes = [];
  cache = cached;
  delay = delayed 2 ∷ [];
  streams = record { owners = with_stream 2001 1 ∷ with_stream 2002 1 ∷ with_stream 2003 2 ∷ with_stream 2004 2 ∷ []; entries = held_by 1 (Some 2001) ∷ held_by 2 (Some 2004) ∷ [] };
  cwds = [];
  next_stream = 3;
  pending = (2001, reading 1 (states.Fetching (call 7) (block 0))) ∷ (2002, reading 1 states.WaitLock) ∷ (2003, syncing) ∷ (2004, reading 2 states.Turn) ∷ [];
  txs = (call 7, 2001) ∷ (call 8, 2003) ∷ [];
  write_backs = (call 8, sent) ∷ [];
  lock_waits = (stream 1, 2002) ∷ [];
  fillers = 2001 ∷ 2004 ∷ [];
  ready = [];
  results = [];
  step = 9;
  out = started (record { 0 = 0 });
}

-- with other locks, delays, turns
abbrev pub with_entries : List Entry → ClientFiles
with_entries entries = record busy { streams = record busy.streams { entries = entries } }

abbrev pub with_turns : List ℕ → ClientFiles
with_turns pids = record busy { fillers = pids }

abbrev pub with_waits : List (StreamNo × ℕ) → ClientFiles
with_waits rows = record busy { lock_waits = rows }

abbrev pub with_calls : List (TxNo × ℕ) → ClientFiles
with_calls rows = record busy { txs = rows }

-- the small state has all facts
abbrev pub BusyHasFileFacts : Type 0
BusyHasFileFacts = facts.KeepsFileFacts busy

-- and none of them is met by every state
pub record FileFactsCanFail : Type 0 where
  pub one_each : facts.OneOperationEach (record busy { pending = (2004, syncing) ∷ busy.pending }) → ⊥
  pub held : facts.LocksAreHeld (with_entries (held_by 1 None ∷ held_by 2 (Some 2004) ∷ [])) → ⊥
  pub none_else : facts.NoneElseHoldsLocks (with_entries (held_by 3 (Some 2003) ∷ busy.streams.entries)) → ⊥
  pub queued : facts.WaitersAreQueued (with_waits []) → ⊥
  pub queued_once : facts.QueuesAreOnce (with_waits ((stream 1, 2002) ∷ (stream 1, 2002) ∷ [])) → ⊥
  pub queued_wait : facts.QueuedAreWaiting (with_waits ((stream 1, 2002) ∷ (stream 2, 2003) ∷ [])) → ⊥
  pub queued_held : facts.QueuedLocksAreHeld (with_entries (held_by 1 (Some 2002) ∷ held_by 2 (Some 2004) ∷ [])) → ⊥
  pub turns : facts.FillersHaveTurns (with_turns (2001 ∷ [])) → ⊥
  pub turns_once : facts.TurnsAreOnce (with_turns (2001 ∷ 2004 ∷ 2004 ∷ [])) → ⊥
  pub in_order : facts.TurnsAreInOrder (with_turns (2004 ∷ 2001 ∷ [])) → ⊥
  pub calls : facts.CallsAreKept (with_calls ((call 7, 2001) ∷ [])) → ⊥
  pub waited : facts.KeptCallsAreWaitedFor (with_calls ((call 9, 2002) ∷ busy.txs)) → ⊥
  pub written : facts.WaitedWriteBacksAreOut (record busy { write_backs = [] }) → ⊥
  pub once : facts.CallsAreOnce (with_calls ((call 7, 2001) ∷ busy.txs)) → ⊥
  pub listed_dirty : facts.ListedAreDirty (record busy { delay = delayed 3 ∷ busy.delay }) → ⊥
  pub listed_sent : facts.ListedAreDirty (record busy { delay = delayed 1 ∷ busy.delay }) → ⊥
  pub dirty_due : facts.DirtyAreDue (record busy { delay = [] }) → ⊥
  pub held_cached : facts.HeldAreCached (record busy { cache = record cached { files = [] } }) → ⊥
  pub fetched : facts.FetchedHaveRoom (record busy { cache = record cached { blocks = dirty 0 3 ∷ cached.blocks } }) → ⊥
  pub fetched_full : facts.FetchedHaveRoom (record busy { cache = record cached { size = 2 } }) → ⊥
  pub rest : facts.IsAtRest (record busy { ready = 2002 ∷ [] }) → ⊥
