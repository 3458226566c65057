-- Facts of the files' side of a client's kernel that every step keeps. No contract leans on them: where a step needs one, it
-- tests it.
use Rattle.std.specs.Prelude.{◌≡◌, ℕ, ◌==◌, Bool, true, false, ◌&&◌, ◌||◌, not, List, [], ◌∷◌, Option, Some, None, is_some, slice_get}
use Rattle.std.specs.List.{list_all, list_any}
use Rattle.sprite_ids.specs.declared.TxNo.{TxNo}
use Rattle.sprite_ids.specs.declared.StreamNo.{StreamNo}
use Rattle.sprite_ids.specs.declared.FileId.{FileId}
use Rattle.sprite_ids.specs.declared.BlockNo.{BlockNo}
use Rattle.sprite_ids.specs.Lists.{EachOnce}
use Rattle.kernel_steps.specs.Rows.{is_row, is_under}
use Rattle.kernel_steps.specs.Outs.{started}
use Rattle.block_cache.specs.declared.BlockKey.{BlockKey}
use Rattle.block_cache.specs.declared.Block.{Block}
use Rattle.block_cache.specs.Blocks.{dirty_at, is_held}
use Rattle.block_cache.specs.Held.{is_full}
use Rattle.stream_table.specs.Entries.{Entry, has_lock, holder_of}
use Rattle.stream_table.specs.Owners.{descriptor}
use Rattle.write_delay.specs.declared.DelayedBlock.{DelayedBlock}
use Rattle.write_delay.specs.Delays.{listed}
use Rattle.client_file_tables.specs.declared.client_files.ClientFiles.{ClientFiles}
use Rattle.client_file_tables.specs.declared.pending.Pending.{Pending}
use Rattle.client_file_tables.specs.declared.pending.Pending.TheVariants as operations
use Rattle.client_file_tables.specs.declared.states.NameState.{NameState}
use Rattle.client_file_tables.specs.declared.states.NameState.TheVariants as names
use Rattle.client_file_tables.specs.declared.states.DataState.{DataState}
use Rattle.client_file_tables.specs.declared.states.DataState.TheVariants as states
use Rattle.client_file_tables.specs.declared.states.SyncState.{SyncState}
use Rattle.client_file_tables.specs.declared.states.SyncState.TheVariants as syncs
use Rattle.client_file_tables.specs.declared.states.CloseState.{CloseState}
use Rattle.client_file_tables.specs.declared.states.CloseState.TheVariants as closes
use Rattle.client_file_tables.specs.declared.states.MoveState.{MoveState}
use Rattle.client_file_tables.specs.declared.states.MoveState.TheVariants as moves
use Rattle.client_file_tables.specs.declared.works.WriteBackOut.{WriteBackOut}
use Rattle.client_file_tables.specs.Rows.{first_of, is_pid, same_call, same_pid, same_stream}
use Rattle.client_file_tables.specs.Blocks.{is_cached}
use Rattle.client_file_tables.specs.WriteBacks.{current_write_back}

-- a test of a looked-up operation
abbrev pub does : (Pending → Bool) → Option Pending → Bool
does test (Some operation) = test operation
does test None = false

-- whether what one may name is that stream
abbrev pub is_named : StreamNo → Option StreamNo → Bool
is_named stream (Some other) = same_stream other stream
is_named stream None = false

-- whether what one may name is that remote call
abbrev pub is_that_call : TxNo → Option TxNo → Bool
is_that_call tx (Some other) = same_call other tx
is_that_call tx None = false

-- One operation each

-- whether the second row is of the process of the first
abbrev pub same_process : {V : Type 0} → ℕ × V → ℕ × V → Bool
same_process row other = is_under same_pid row.0 other

-- a process has at most one operation
abbrev pub OneOperationEach : ClientFiles → Type 0
OneOperationEach s = EachOnce same_process s.pending

-- Locks

-- the lock of its stream that an operation on a file's data has, unless it waits for it
abbrev pub data_holds : DataState → StreamNo → Option StreamNo
data_holds states.WaitLock stream = None
data_holds _ stream = Some stream

abbrev pub close_holds : CloseState → Option StreamNo
close_holds closes.WaitLock = None
close_holds (closes.Closing tx stream) = Some stream

abbrev pub move_holds : MoveState → StreamNo → Option StreamNo
move_holds moves.WaitLock stream = None
move_holds (moves.MovingOut tx kept place) stream = Some stream

-- the stream whose lock the operation has: names are looked up and syncs are done without one
abbrev pub held_lock : Pending → Option StreamNo
held_lock (operations.Name call) = None
held_lock (operations.Data call) = data_holds call.state call.stream
held_lock (operations.Sync call) = None
held_lock (operations.Close work) = close_holds work.state
held_lock (operations.Move work) = move_holds work.state work.stream

-- whether the process is the holder
abbrev pub is_holder : ℕ → Option ℕ → Bool
is_holder pid (Some holder) = holder == pid
is_holder pid None = false

-- whether it holds that lock, where there is one
abbrev pub holds_lock : ℕ → Option StreamNo → ClientFiles → Bool
holds_lock pid (Some stream) s = is_holder pid (holder_of s.streams.entries stream)
holds_lock pid None s = true

abbrev pub has_its_lock : ClientFiles → ℕ × Pending → Bool
has_its_lock s row = holds_lock row.0 (held_lock row.1) s

-- what waits for anything but a lock, of data, closes at the server and moves, has its stream's lock
abbrev pub LocksAreHeld : ClientFiles → Type 0
LocksAreHeld s = list_all (has_its_lock s) s.pending ≡ true

-- whether the operation has the stream's lock
abbrev pub has_lock_of : StreamNo → Pending → Bool
has_lock_of stream operation = is_named stream (held_lock operation)

abbrev pub is_held_by : Option ℕ → StreamNo → ClientFiles → Bool
is_held_by (Some holder) stream s = does (has_lock_of stream) (first_of holder s.pending)
is_held_by None stream s = true

abbrev pub is_held_rightly : ClientFiles → Entry → Bool
is_held_rightly s entry = is_held_by entry.holder entry.number s

-- nobody else has a lock
abbrev pub NoneElseHoldsLocks : ClientFiles → Type 0
NoneElseHoldsLocks s = list_all (is_held_rightly s) s.streams.entries ≡ true

-- Queues of locks

-- the stream for whose lock an operation on a file's data waits
abbrev pub data_wants : DataState → StreamNo → Option StreamNo
data_wants states.WaitLock stream = Some stream
data_wants _ stream = None

-- that of a looked-up descriptor
abbrev pub stream_of_fd : ℕ → Option ℕ → ClientFiles → Option StreamNo
stream_of_fd pid (Some fd) s = descriptor s.streams.owners pid fd
stream_of_fd pid None s = None

-- a close waits for the lock of its first descriptor
abbrev pub close_wants : CloseState → ℕ → List ℕ → ClientFiles → Option StreamNo
close_wants closes.WaitLock pid fds s = stream_of_fd pid (slice_get fds 0) s
close_wants (closes.Closing tx stream) pid fds s = None

abbrev pub move_wants : MoveState → StreamNo → Option StreamNo
move_wants moves.WaitLock stream = Some stream
move_wants (moves.MovingOut tx kept place) stream = None

-- the stream for whose lock the process's operation waits
abbrev pub wanted_lock : ℕ → Pending → ClientFiles → Option StreamNo
wanted_lock pid (operations.Name call) s = None
wanted_lock pid (operations.Data call) s = data_wants call.state call.stream
wanted_lock pid (operations.Sync call) s = None
wanted_lock pid (operations.Close work) s = close_wants work.state pid work.fds s
wanted_lock pid (operations.Move work) s = move_wants work.state work.stream

-- whether it stands in that queue, where there is one
abbrev pub stands_in : ℕ → Option StreamNo → ClientFiles → Bool
stands_in pid (Some stream) s = list_any (is_row same_stream same_pid stream pid) s.lock_waits
stands_in pid None s = true

abbrev pub is_queued : ClientFiles → ℕ × Pending → Bool
is_queued s row = stands_in row.0 (wanted_lock row.0 row.1 s) s

-- who waits for a lock stands in its queue
abbrev pub WaitersAreQueued : ClientFiles → Type 0
WaitersAreQueued s = list_all (is_queued s) s.pending ≡ true

-- whether the two are one wait
abbrev pub same_wait : StreamNo × ℕ → StreamNo × ℕ → Bool
same_wait row other = is_row same_stream same_pid row.0 row.1 other

-- nobody stands in a queue twice
abbrev pub QueuesAreOnce : ClientFiles → Type 0
QueuesAreOnce s = EachOnce same_wait s.lock_waits

-- whether the process's operation waits for that lock
abbrev pub wants_lock_of : ClientFiles → StreamNo × ℕ → Pending → Bool
wants_lock_of s row operation = is_named row.0 (wanted_lock row.1 operation s)

abbrev pub is_waiting : ClientFiles → StreamNo × ℕ → Bool
is_waiting s row = does (wants_lock_of s row) (first_of row.1 s.pending)

-- who stands in a queue waits for that lock
abbrev pub QueuedAreWaiting : ClientFiles → Type 0
QueuedAreWaiting s = list_all (is_waiting s) s.lock_waits ≡ true

-- whether another has the lock
abbrev pub is_kept_out : ClientFiles → StreamNo × ℕ → Bool
is_kept_out s row = not (has_lock row.1 (holder_of s.streams.entries row.0))

-- a lock with a queue is another's
abbrev pub QueuedLocksAreHeld : ClientFiles → Type 0
QueuedLocksAreHeld s = list_all (is_kept_out s) s.lock_waits ≡ true

-- Turns to fill blocks

-- whether an operation in that state needs blocks
abbrev pub needs_blocks : DataState → Bool
needs_blocks states.WaitLock = false
needs_blocks states.Turn = true
needs_blocks (states.Room tx) = true
needs_blocks (states.Fetching tx block) = true
needs_blocks (states.AtServer tx) = false

abbrev pub is_filler : Pending → Bool
is_filler (operations.Data call) = needs_blocks call.state
is_filler _ = false

-- whether it has its turn: it waits for room or for a block
abbrev pub fills_now : DataState → Bool
fills_now states.Turn = false
fills_now state = needs_blocks state

abbrev pub is_filling_now : Pending → Bool
is_filling_now (operations.Data call) = fills_now call.state
is_filling_now _ = false

-- whether it waits for its turn
abbrev pub is_turn : DataState → Bool
is_turn states.Turn = true
is_turn _ = false

abbrev pub waits_for_turn : Pending → Bool
waits_for_turn (operations.Data call) = is_turn call.state
waits_for_turn _ = false

-- whether the process stands among those that fill, where its operation needs blocks
abbrev pub has_a_turn : ClientFiles → ℕ × Pending → Bool
has_a_turn s row = not (is_filler row.1) || list_any (is_pid row.0) s.fillers

-- who needs blocks has a turn
abbrev pub FillersHaveTurns : ClientFiles → Type 0
FillersHaveTurns s = list_all (has_a_turn s) s.pending ≡ true

-- and only one
abbrev pub TurnsAreOnce : ClientFiles → Type 0
TurnsAreOnce s = EachOnce is_pid s.fillers

abbrev pub is_waiting_for_turn : ClientFiles → ℕ → Bool
is_waiting_for_turn s pid = does waits_for_turn (first_of pid s.pending)

-- the first one fills and the others wait for their turn
abbrev pub are_in_order : List ℕ → ClientFiles → Bool
are_in_order [] s = true
are_in_order (first ∷ rest) s = does is_filling_now (first_of first s.pending) && list_all (is_waiting_for_turn s) rest

abbrev pub TurnsAreInOrder : ClientFiles → Type 0
TurnsAreInOrder s = are_in_order s.fillers s ≡ true

-- Remote calls

-- the remote call for whose answer an operation waits that is its own
abbrev pub name_asks : NameState → Option TxNo
name_asks (names.Broadcasting tx prefix) = Some tx
name_asks (names.Echoing tx server) = Some tx
name_asks (names.Asking tx) = Some tx

abbrev pub data_asks : DataState → Option TxNo
data_asks (states.Fetching tx block) = Some tx
data_asks (states.AtServer tx) = Some tx
data_asks _ = None

abbrev pub sync_asks : SyncState → Option TxNo
sync_asks (syncs.WaitOwn tx) = Some tx
sync_asks _ = None

abbrev pub close_asks : CloseState → Option TxNo
close_asks closes.WaitLock = None
close_asks (closes.Closing tx stream) = Some tx

abbrev pub move_asks : MoveState → Option TxNo
move_asks moves.WaitLock = None
move_asks (moves.MovingOut tx kept place) = Some tx

abbrev pub own_call : Pending → Option TxNo
own_call (operations.Name call) = name_asks call.state
own_call (operations.Data call) = data_asks call.state
own_call (operations.Sync call) = sync_asks call.state
own_call (operations.Close work) = close_asks work.state
own_call (operations.Move work) = move_asks work.state

-- the write-back for whose answer it waits
abbrev pub data_waits_back : DataState → Option TxNo
data_waits_back (states.Room tx) = Some tx
data_waits_back _ = None

abbrev pub sync_waits_back : SyncState → Option TxNo
sync_waits_back (syncs.WaitOther tx) = Some tx
sync_waits_back (syncs.WaitOwn tx) = Some tx
sync_waits_back syncs.Looking = None

abbrev pub waited_write_back : Pending → Option TxNo
waited_write_back (operations.Data call) = data_waits_back call.state
waited_write_back (operations.Sync call) = sync_waits_back call.state
waited_write_back _ = None

-- whether the call is kept as the process's, where there is one
abbrev pub is_kept_call : ℕ → Option TxNo → ClientFiles → Bool
is_kept_call pid (Some tx) s = list_any (is_row same_call same_pid tx pid) s.txs
is_kept_call pid None s = true

abbrev pub has_its_call : ClientFiles → ℕ × Pending → Bool
has_its_call s row = is_kept_call row.0 (own_call row.1) s

-- each remote call of an operation is kept until its answer
abbrev pub CallsAreKept : ClientFiles → Type 0
CallsAreKept s = list_all (has_its_call s) s.pending ≡ true

-- whether the process's operation waits for that call
abbrev pub asks_by : TxNo → Pending → Bool
asks_by tx operation = is_that_call tx (own_call operation)

abbrev pub is_asked_for : ClientFiles → TxNo × ℕ → Bool
is_asked_for s row = does (asks_by row.0) (first_of row.1 s.pending)

-- and no other is
abbrev pub KeptCallsAreWaitedFor : ClientFiles → Type 0
KeptCallsAreWaitedFor s = list_all (is_asked_for s) s.txs ≡ true

-- whether the write-back is out, where there is one
abbrev pub is_out_call : Option TxNo → ClientFiles → Bool
is_out_call (Some tx) s = list_any (is_under same_call tx) s.write_backs
is_out_call None s = true

abbrev pub has_its_write_back : ClientFiles → ℕ × Pending → Bool
has_its_write_back s row = is_out_call (waited_write_back row.1) s

-- each write-back that an operation waits for has no answer yet
abbrev pub WaitedWriteBacksAreOut : ClientFiles → Type 0
WaitedWriteBacksAreOut s = list_all (has_its_write_back s) s.pending ≡ true

-- whether the second row is of the remote call of the first
abbrev pub same_key : {V : Type 0} → TxNo × V → TxNo × V → Bool
same_key row other = is_under same_call row.0 other

-- a remote call is kept once
pub record CallsAreOnce (s : ClientFiles) : Type 0 where
  pub own : EachOnce same_key s.txs
  pub back : EachOnce same_key s.write_backs

-- Blocks and delays

-- whether the block is dirty, and no write-back of it is out that went under its file's present stamp
abbrev pub is_rightly_listed : ClientFiles → DelayedBlock × ℕ → Bool
is_rightly_listed s entry =
    is_some (dirty_at s.cache.blocks entry.0.file entry.0.block.0) && not (is_some (current_write_back entry.0.file entry.0.block s))

-- what waits to be written back is dirty, and not on its way
abbrev pub ListedAreDirty : ClientFiles → Type 0
ListedAreDirty s = list_all (is_rightly_listed s) s.delay ≡ true

-- whether the write-back is of that block, under whichever stamp it went
abbrev pub is_of_block : BlockKey → TxNo × WriteBackOut → Bool
is_of_block key row = (row.1.file.server == key.file.server) && (row.1.file.number == key.file.number) && (row.1.block.0 == key.block.0)

abbrev pub is_due_or_clean : ClientFiles → BlockKey × Block → Bool
is_due_or_clean s entry =
    not (is_some entry.1.dirty) || listed s.delay entry.0.file entry.0.block || list_any (is_of_block entry.0) s.write_backs

-- a dirty block waits to be written back, or is on its way
abbrev pub DirtyAreDue : ClientFiles → Type 0
DirtyAreDue s = list_all (is_due_or_clean s) s.cache.blocks ≡ true

abbrev pub is_of_cached_file : ClientFiles → BlockKey × Block → Bool
is_of_cached_file s entry = is_cached entry.0.file s

-- blocks are held of cached files alone
abbrev pub HeldAreCached : ClientFiles → Type 0
HeldAreCached s = list_all (is_of_cached_file s) s.cache.blocks ≡ true

-- whether the block isn't held and may be put in
abbrev pub has_room_for : FileId → BlockNo → ClientFiles → Bool
has_room_for file block s = not (is_held s.cache.blocks file block.0) && not (is_full s.cache)

abbrev pub fetches_with_room : DataState → FileId → ClientFiles → Bool
fetches_with_room (states.Fetching tx block) file s = has_room_for file block s
fetches_with_room _ file s = true

abbrev pub is_fetching_with_room : ClientFiles → ℕ × Pending → Bool
is_fetching_with_room s (pid, operations.Data call) = fetches_with_room call.state call.file s
is_fetching_with_room s (pid, operation) = true

-- a block that is fetched isn't held, and there is room for it: also where a grant or a callback came meanwhile
abbrev pub FetchedHaveRoom : ClientFiles → Type 0
FetchedHaveRoom s = list_all (is_fetching_with_room s) s.pending ≡ true

-- Between two steps

-- nothing could go on, and nothing is to be told
pub record IsAtRest (s : ClientFiles) : Type 0 where
  pub ready : s.ready ≡ []
  pub results : s.results ≡ []
  pub said : s.out ≡ started (record { 0 = 0 })

-- all of these
pub record KeepsFileFacts (s : ClientFiles) : Type 0 where
  pub one_each : OneOperationEach s
  pub held : LocksAreHeld s
  pub none_else : NoneElseHoldsLocks s
  pub queued : WaitersAreQueued s
  pub queued_once : QueuesAreOnce s
  pub queued_wait : QueuedAreWaiting s
  pub queued_held : QueuedLocksAreHeld s
  pub turns : FillersHaveTurns s
  pub turns_once : TurnsAreOnce s
  pub in_order : TurnsAreInOrder s
  pub calls : CallsAreKept s
  pub waited : KeptCallsAreWaitedFor s
  pub written : WaitedWriteBacksAreOut s
  pub once : CallsAreOnce s
  pub listed_dirty : ListedAreDirty s
  pub dirty_due : DirtyAreDue s
  pub held_cached : HeldAreCached s
  pub fetched : FetchedHaveRoom s
  pub rest : IsAtRest s
