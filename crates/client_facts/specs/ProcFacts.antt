-- Facts of the processes of a client's kernel that every step keeps. No contract leans on them: where a step needs one, it tests
-- it.
use Rattle.std.specs.Prelude.{◌≡◌, ℕ, ◌==◌, Bool, true, false, ◌&&◌, ◌||◌, not, List, length, Option, Some, None, is_some}
use Rattle.std.specs.List.{list_all, list_any}
use Rattle.sprite_ids.specs.declared.TxNo.{TxNo}
use Rattle.sprite_ids.specs.declared.StreamNo.{StreamNo}
use Rattle.sprite_ids.specs.Lists.{EachOnce}
use Rattle.kernel_steps.specs.Rows.{is_row, is_under}
use Rattle.stream_table.specs.declared.Carried.{Carried}
use Rattle.stream_table.specs.Owners.{Owner, descriptor}
use Rattle.migrate_freeze.specs.declared.frozen.MoveStep.{MoveStep}
use Rattle.migrate_freeze.specs.declared.frozen.MoveStep.TheVariants as steps
use Rattle.migrate_freeze.specs.OneMove.{OneMove}
use Rattle.migrate_freeze.specs.Moves.{is_moved, is_stream}
use Rattle.pseudo_device.specs.declared.ask.Ask.{Ask}
use Rattle.pseudo_device.specs.Device.{Asks, hand_list}
use Rattle.unix_calls.specs.declared.About.{About}
use Rattle.client_file_tables.specs.declared.pending.Pending.{Pending}
use Rattle.client_file_tables.specs.declared.pending.Pending.TheVariants as operations
use Rattle.client_file_tables.specs.declared.moves.ClosingOf.{ClosingOf}
use Rattle.client_file_tables.specs.declared.moves.ClosingOf.TheVariants as closings
use Rattle.client_homes.specs.declared.client.ClientProcs.{ClientProcs}
use Rattle.client_homes.specs.declared.client.Leaving.{Leaving}
use Rattle.client_homes.specs.declared.client.Unfinished.{Unfinished}
use Rattle.client_homes.specs.declared.client.Unfinished.TheVariants as unfinished
use Rattle.client_homes.specs.declared.process.Proc.{Proc}
use Rattle.client_homes.specs.declared.process.ProcState.{ProcState}
use Rattle.client_homes.specs.declared.process.ProcState.TheVariants as states
use Rattle.client_homes.specs.Procs.{is_call, is_pid, proc_at}
use Rattle.client_homes.specs.Kills.{is_here}
use Rattle.client_devices.specs.Asking.{about_ask, is_about}
use Rattle.client_devices.specs.Tables.{asks_in, is_alive}
use Rattle.client_moves.specs.Leaving.{is_page_out, leaving_at}
use Rattle.client_facts.specs.FileFacts.{same_process}

-- a test of the state of a looked-up process
abbrev pub is_in : (ProcState → Bool) → Option Proc → Bool
is_in test (Some proc) = test proc.state
is_in test None = false

-- Where processes are

-- a process is here once
abbrev pub ProcessesAreOnce : ClientProcs → Type 0
ProcessesAreOnce s = EachOnce same_process s.procs

-- and leaves once
abbrev pub LeavingAreOnce : ClientProcs → Type 0
LeavingAreOnce s = EachOnce same_process s.leaving

-- whether the process that leaves is none of those that are here
abbrev pub is_gone : ClientProcs → ℕ × Leaving → Bool
is_gone s row = not (is_here row.0 s)

-- nobody is here and leaves
abbrev pub NoneIsHereAndLeaves : ClientProcs → Type 0
NoneIsHereAndLeaves s = list_all (is_gone s) s.leaving ≡ true

-- Operations on files

abbrev pub is_in_files : ProcState → Bool
is_in_files states.InFiles = true
is_in_files _ = false

abbrev pub is_ending : ProcState → Bool
is_ending states.Ending = true
is_ending _ = false

-- in which state a process has closes for that
abbrev pub closes_in : ClosingOf → ProcState → Bool
closes_in (closings.Call number fd) state = is_in_files state
closes_in (closings.End about) state = is_ending state

-- whether a stream of a process that leaves is to move
abbrev pub is_moving_in : MoveStep → Bool
is_moving_in (steps.Moving moving) = true
is_moving_in (steps.Sent sent) = false

abbrev pub is_moving_of : Option Leaving → Bool
is_moving_of (Some leaving) = is_moving_in leaving.step
is_moving_of None = false

abbrev pub is_moving : ℕ → ClientProcs → Bool
is_moving pid s = is_moving_of (leaving_at pid s)

-- whether the process may have that operation: one that moves a stream leaves, any other is inside a call or has ended
abbrev pub may_have : ℕ → Pending → ClientProcs → Bool
may_have pid (operations.Name call) s = is_in is_in_files (proc_at pid s)
may_have pid (operations.Data call) s = is_in is_in_files (proc_at pid s)
may_have pid (operations.Sync call) s = is_in is_in_files (proc_at pid s)
may_have pid (operations.Close work) s = is_in (closes_in work.of) (proc_at pid s)
may_have pid (operations.Move work) s = is_moving pid s

abbrev pub has_it_rightly : ClientProcs → ℕ × Pending → Bool
has_it_rightly s row = may_have row.0 row.1 s

abbrev pub OperationsAreInside : ClientProcs → Type 0
OperationsAreInside s = list_all (has_it_rightly s) s.files.pending ≡ true

-- whether the process has an operation
abbrev pub has_operation : ℕ → ClientProcs → Bool
has_operation pid s = list_any (is_under is_pid pid) s.files.pending

-- whether a process in that state has one
abbrev pub has_one_in : ProcState → Bool
has_one_in state = is_in_files state || is_ending state

abbrev pub waits_there : ClientProcs → ℕ × Proc → Bool
waits_there s row = not (has_one_in row.1.state) || has_operation row.0 s

abbrev pub moves_there : ClientProcs → ℕ × Leaving → Bool
moves_there s row = not (is_moving_in row.1.step) || has_operation row.0 s

-- who is inside a call on files, has ended, or has a stream to move has an operation
pub record InsideHaveOperations (s : ClientProcs) : Type 0 where
  pub here : list_all (waits_there s) s.procs ≡ true
  pub leaving : list_all (moves_there s) s.leaving ≡ true

-- References of streams

-- whether a descriptor leads to a stream of the process that has not moved
abbrev pub is_unmoved : OneMove → Option StreamNo → Bool
is_unmoved moving (Some number) = not (is_moved number moving.freeze.moved)
is_unmoved moving None = true

abbrev pub are_unmoved : MoveStep → List (Option StreamNo) → Bool
are_unmoved (steps.Moving moving) numbers = list_all (is_unmoved moving) numbers
are_unmoved (steps.Sent sent) numbers = false

abbrev pub has_unmoved : Option Leaving → List (Option StreamNo) → Bool
has_unmoved (Some leaving) numbers = are_unmoved leaving.step numbers
has_unmoved None numbers = false

abbrev pub is_known_owner : ClientProcs → Owner → Bool
is_known_owner s owner = is_here owner.pid s || has_unmoved (leaving_at owner.pid s) owner.numbers

-- only processes that are here have descriptors, and processes that leave, of streams that have not moved
abbrev pub OwnersAreKnown : ClientProcs → Type 0
OwnersAreKnown s = list_all (is_known_owner s) s.files.streams.owners ≡ true

abbrev pub leads : StreamNo → Option StreamNo → Bool
leads number (Some other) = is_stream number other
leads number None = false

-- whether the stream has moved, moves, or is still the descriptor's
abbrev pub is_moved_or_held : ℕ → OneMove → ClientProcs → Carried → Bool
is_moved_or_held pid moving s item =
    is_moved item.number moving.freeze.moved || is_stream moving.item.number item.number || leads item.number (descriptor s.files.streams.owners pid item.fd)

abbrev pub keeps_descriptors : ℕ → MoveStep → ClientProcs → Bool
keeps_descriptors pid (steps.Moving moving) s = list_all (is_moved_or_held pid moving s) moving.freeze.process.streams
keeps_descriptors pid (steps.Sent sent) s = true

abbrev pub keeps_its_descriptors : ClientProcs → ℕ × Leaving → Bool
keeps_its_descriptors s row = keeps_descriptors row.0 row.1.step s

-- a process that leaves has the descriptors of each stream until that one moves
abbrev pub UnmovedAreHeld : ClientProcs → Type 0
UnmovedAreHeld s = list_all (keeps_its_descriptors s) s.leaving ≡ true

-- Between two calls

-- whether the process has neither a call nor a flag
abbrev pub is_free_proc : Proc → Bool
is_free_proc proc = not proc.killed && not proc.evict && not proc.fresh && not (is_some proc.call)

-- whether it has no call, and an image that no call made anew
abbrev pub is_clean_proc : Proc → Bool
is_clean_proc proc = not proc.fresh && not (is_some proc.call)

abbrev pub is_free_in : ProcState → Proc → Bool
is_free_in states.Ready proc = is_free_proc proc
is_free_in (states.PageWait tx page) proc = is_clean_proc proc
is_free_in (states.Arriving tx moving) proc = moving || is_clean_proc proc
is_free_in _ proc = true

abbrev pub is_free_if_ready : ℕ × Proc → Bool
is_free_if_ready row = is_free_in row.1.state row.1

-- a process that is ready has neither a call nor a flag, of a kill or of an eviction; one that waits for a page between two calls,
-- or has come outside of its own `migrate`, has no call
abbrev pub ReadyAreFree : ClientProcs → Type 0
ReadyAreFree s = list_all is_free_if_ready s.procs ≡ true

abbrev pub is_settled_in : ProcState → Bool
is_settled_in states.Returning = false
is_settled_in _ = true

abbrev pub is_settled : ℕ × Proc → Bool
is_settled row = is_settled_in row.1.state

-- nobody's reply is still to be given
abbrev pub NoneReturns : ClientProcs → Type 0
NoneReturns s = list_all is_settled s.procs ≡ true

-- Remote calls

-- the remote call for which a process in that state waits, and what it is for
abbrev pub waited_call : ℕ → ProcState → Option (TxNo × Unfinished)
waited_call pid (states.PageWait tx page) = Some (tx, unfinished.PageIn pid)
waited_call pid (states.AtHome tx) = Some (tx, unfinished.Home pid)
waited_call pid (states.InAsk (Some tx)) = Some (tx, unfinished.Ask pid)
waited_call pid (states.ForkPages tx page) = Some (tx, unfinished.PageIn pid)
waited_call pid (states.AnswerPages tx page reply) = Some (tx, unfinished.PageIn pid)
waited_call pid (states.Arriving tx moving) = Some (tx, unfinished.Place pid)
waited_call pid (states.Dying tx) = Some (tx, unfinished.Death pid)
waited_call pid _ = None

-- whether the two are one
abbrev pub same_purpose : Unfinished → Unfinished → Bool
same_purpose (unfinished.PageOut pid) (unfinished.PageOut other) = other == pid
same_purpose (unfinished.PageIn pid) (unfinished.PageIn other) = other == pid
same_purpose (unfinished.Home pid) (unfinished.Home other) = other == pid
same_purpose (unfinished.Ask pid) (unfinished.Ask other) = other == pid
same_purpose (unfinished.Death pid) (unfinished.Death other) = other == pid
same_purpose (unfinished.Place pid) (unfinished.Place other) = other == pid
same_purpose (unfinished.Killed pid) (unfinished.Killed other) = other == pid
same_purpose (unfinished.Transfer pid) (unfinished.Transfer other) = other == pid
same_purpose _ _ = false

abbrev pub is_unfinished : Option (TxNo × Unfinished) → ClientProcs → Bool
is_unfinished (Some call) s = list_any (is_row is_call same_purpose call.0 call.1) s.unfinished
is_unfinished None s = true

abbrev pub has_its_call : ClientProcs → ℕ × Proc → Bool
has_its_call s row = is_unfinished (waited_call row.0 row.1.state) s

-- each remote call that a process waits for has no answer yet
abbrev pub WaitedCallsAreUnfinished : ClientProcs → Type 0
WaitedCallsAreUnfinished s = list_all (has_its_call s) s.procs ≡ true

-- whether the state waits for that remote call
abbrev pub is_for : TxNo → Option (TxNo × Unfinished) → Bool
is_for tx (Some call) = is_call call.0 tx
is_for tx None = false

abbrev pub waits_for : ℕ → TxNo → ProcState → Bool
waits_for pid tx state = is_for tx (waited_call pid state)

-- whether it is known here for what the remote call is: a process that was sent is nobody's
abbrev pub is_wanted : TxNo → Unfinished → ClientProcs → Bool
is_wanted tx (unfinished.PageOut pid) s = is_some (leaving_at pid s)
is_wanted tx (unfinished.PageIn pid) s = is_in (waits_for pid tx) (proc_at pid s)
is_wanted tx (unfinished.Home pid) s = is_in (waits_for pid tx) (proc_at pid s)
is_wanted tx (unfinished.Ask pid) s = is_in (waits_for pid tx) (proc_at pid s)
is_wanted tx (unfinished.Death pid) s = is_in (waits_for pid tx) (proc_at pid s)
is_wanted tx (unfinished.Place pid) s = is_in (waits_for pid tx) (proc_at pid s)
is_wanted tx (unfinished.Killed pid) s = list_any (is_under is_pid pid) s.kills
is_wanted tx (unfinished.Transfer pid) s = true

abbrev pub is_wanted_row : ClientProcs → TxNo × Unfinished → Bool
is_wanted_row s row = is_wanted row.0 row.1 s

-- each that has none is waited for
abbrev pub UnfinishedAreWaitedFor : ClientProcs → Type 0
UnfinishedAreWaitedFor s = list_all (is_wanted_row s) s.unfinished ≡ true

-- whether the second row is of the remote call of the first
abbrev pub same_call_row : {V : Type 0} → TxNo × V → TxNo × V → Bool
same_call_row row other = is_under is_call row.0 other

-- a remote call is for one thing
abbrev pub UnfinishedAreOnce : ClientProcs → Type 0
UnfinishedAreOnce s = EachOnce same_call_row s.unfinished

-- whether all pages of a process whose streams have moved are still to be put
abbrev pub waits_for_pages : ClientProcs → ℕ × Leaving → Bool
waits_for_pages s row = is_moving_in row.1.step || list_any (is_page_out row.0) s.unfinished

-- who leaves and has no stream to move waits for a page to be put
abbrev pub SentWaitForPages : ClientProcs → Type 0
SentWaitForPages s = list_all (waits_for_pages s) s.leaving ≡ true

-- Pseudo-devices

-- whether the device has a master, nothing in hand and no ask
abbrev pub is_idle : Asks → Bool
is_idle asks = is_alive asks && not (is_some asks.in_hand) && (length asks.waiting == 0)

abbrev pub is_idle_of : Option Asks → Bool
is_idle_of (Some asks) = is_idle asks
is_idle_of None = false

-- whether a process in that state waits for an ask of the device
abbrev pub gets_from : ℕ → ProcState → Bool
gets_from device (states.Getting other max) = other == device
gets_from device _ = false

abbrev pub is_getting : ClientProcs → ℕ × ℕ → Bool
is_getting s row = is_idle_of (asks_in row.0 s) && is_in (gets_from row.0) (proc_at row.1 s)

-- masters wait for asks only of a device that has none, neither in hand nor waiting
abbrev pub GettersWaitForAsks : ClientProcs → Type 0
GettersWaitForAsks s = list_all (is_getting s) s.getters ≡ true

-- whether a process in that state, inside `pd_get`, stands among those that wait
abbrev pub is_getter_in : ProcState → ℕ → ClientProcs → Bool
is_getter_in (states.Getting device max) pid s = list_any (is_row is_pid is_pid device pid) s.getters
is_getter_in _ pid s = true

abbrev pub is_getter : ClientProcs → ℕ × Proc → Bool
is_getter s row = is_getter_in row.1.state row.0 s

-- and who is inside `pd_get` waits
abbrev pub GettersAreKept : ClientProcs → Type 0
GettersAreKept s = list_all (is_getter s) s.procs ≡ true

-- whether the ask is of that call
abbrev pub is_ask_of : About → Ask → Bool
is_ask_of about ask = is_about (about_ask ask) about

abbrev pub has_ask : About → Asks → Bool
has_ask about asks = list_any (is_ask_of about) (hand_list asks.in_hand) || list_any (is_ask_of about) asks.waiting

abbrev pub has_ask_at : About → ℕ × Asks → Bool
has_ask_at about row = has_ask about row.1

-- whether a process in that state waits for the answer of a device here
abbrev pub asks_here : ProcState → Bool
asks_here (states.InAsk None) = true
asks_here _ = false

-- whether the answer is for another kernel, or for a process here that waits for it
abbrev pub is_for_asker : Option TxNo → About → ClientProcs → Bool
is_for_asker (Some tx) about s = true
is_for_asker None about s = is_in asks_here (proc_at about.pid s)

abbrev pub is_asked : ClientProcs → About × Option TxNo → Bool
is_asked s row = list_any (has_ask_at row.0) s.devices && is_for_asker row.1 row.0 s

-- each ask for whose answer somebody waits is one of a device here
abbrev pub AskedAreOfDevices : ClientProcs → Type 0
AskedAreOfDevices s = list_all (is_asked s) s.asked ≡ true

abbrev pub is_answered_to : ClientProcs → Ask → Bool
is_answered_to s ask = list_any (is_under is_about (about_ask ask)) s.asked

abbrev pub are_answered_to : ClientProcs → ℕ × Asks → Bool
are_answered_to s row = list_all (is_answered_to s) (hand_list row.1.in_hand) && list_all (is_answered_to s) row.1.waiting

-- and somebody waits for the answer of each ask of a device here
abbrev pub AsksHaveAskers : ClientProcs → Type 0
AsksHaveAskers s = list_all (are_answered_to s) s.devices ≡ true

abbrev pub same_about : About × Option TxNo → About × Option TxNo → Bool
same_about row other = is_under is_about row.0 other

-- one at a time
abbrev pub AskedAreOnce : ClientProcs → Type 0
AskedAreOnce s = EachOnce same_about s.asked

-- whether the process is inside `pd_make`, and its device is there
abbrev pub is_making : ClientProcs → ℕ × ℕ → Bool
is_making s row = is_in is_in_files (proc_at row.0 s) && is_some (asks_in row.1 s)

-- a device is there since its `pd_make` was issued
abbrev pub MadeAreThere : ClientProcs → Type 0
MadeAreThere s = list_all (is_making s) s.making ≡ true

-- all of these
pub record KeepsProcFacts (s : ClientProcs) : Type 0 where
  pub once : ProcessesAreOnce s
  pub leaving_once : LeavingAreOnce s
  pub apart : NoneIsHereAndLeaves s
  pub inside : OperationsAreInside s
  pub operations : InsideHaveOperations s
  pub owners : OwnersAreKnown s
  pub unmoved : UnmovedAreHeld s
  pub free : ReadyAreFree s
  pub settled : NoneReturns s
  pub calls : WaitedCallsAreUnfinished s
  pub wanted : UnfinishedAreWaitedFor s
  pub calls_once : UnfinishedAreOnce s
  pub pages : SentWaitForPages s
  pub getting : GettersWaitForAsks s
  pub getters : GettersAreKept s
  pub asked : AskedAreOfDevices s
  pub askers : AsksHaveAskers s
  pub asked_once : AskedAreOnce s
  pub made : MadeAreThere s
