-- Facts of who waits for the lock of a stream, and of the stream table, that every step of a client's files' side keeps.
use Rattle.std.specs.Prelude.{◌≡◌, ℕ, Bool, true, false, ◌||◌, not, [], is_some}
use Rattle.std.specs.List.{AllByRecursion, list_all}
use Rattle.sprite_ids.specs.declared.TxNo.{TxNo}
use Rattle.kernel_steps.specs.declared.Input.{Input}
use Rattle.process_machine.specs.Machine.{Machine}
use Rattle.unix_calls.specs.declared.Description.{Description}
use Rattle.stream_table.specs.Streams.{IsTable}
use Rattle.client_file_tables.specs.declared.client_files.ClientFiles.{ClientFiles}
use Rattle.client_file_tables.specs.declared.pending.Pending.{Pending}
use Rattle.client_file_tables.specs.declared.pending.Pending.TheVariants as operations
use Rattle.client_file_tables.specs.declared.states.CloseState.{CloseState}
use Rattle.client_file_tables.specs.declared.states.CloseState.TheVariants as closes
use Rattle.client_file_tables.specs.declared.states.DataState.{DataState}
use Rattle.client_file_tables.specs.declared.states.DataState.TheVariants as states
use Rattle.client_file_tables.specs.declared.states.MoveState.{MoveState}
use Rattle.client_file_tables.specs.declared.states.MoveState.TheVariants as moves
use Rattle.client_homes.specs.declared.client.ClientProcs.{ClientProcs}
use Rattle.client_procs.specs.Boot.{boots}
use Rattle.client_procs.specs.Readers.{with_image}
use Rattle.client_files.specs.FileSteps.{files_step}
use Rattle.client_facts.specs.GoingOn.{MayCome, Rests}
use Rattle.client_facts.specs.FileFacts.{WaitersAreQueued, wanted_lock}
use Rattle.file_walks.specs.Fits.{LeadsThere}

-- whether an operation waits for the lock of a stream
abbrev pub data_waits : DataState → Bool
data_waits states.WaitLock = true
data_waits _ = false

abbrev pub close_waits : CloseState → Bool
close_waits closes.WaitLock = true
close_waits (closes.Closing tx stream) = false

abbrev pub move_waits : MoveState → Bool
move_waits moves.WaitLock = true
move_waits (moves.MovingOut tx kept place) = false

abbrev pub waits_for_lock : Pending → Bool
waits_for_lock (operations.Name call) = false
waits_for_lock (operations.Data call) = data_waits call.state
waits_for_lock (operations.Sync call) = false
waits_for_lock (operations.Close work) = close_waits work.state
waits_for_lock (operations.Move work) = move_waits work.state

-- whether there is a stream for whose lock it waits, where it waits for one: the first descriptor of a close leads to one
abbrev pub wants_some : ClientFiles → ℕ × Pending → Bool
wants_some s row = not (waits_for_lock row.1) || is_some (wanted_lock row.0 row.1 s)

abbrev pub WaitersWantLocks : ClientFiles → Type 0
WaitersWantLocks s = list_all (wants_some s) s.pending ≡ true

-- each operation on a file's data is at a descriptor that leads to its stream
abbrev pub LeadsThereIn : ClientFiles → ℕ × Pending → Type 0
LeadsThereIn s row = LeadsThere s.streams.owners row.0 row.1

abbrev pub DataAreAtStreams : ClientFiles → Type 0
DataAreAtStreams s = AllByRecursion (LeadsThereIn s) s.pending

-- between two steps: the stream table is one; operations on files' data are at their streams, which are open; who waits for a lock waits for a
-- stream's, and stands in its queue; and nobody is to look at anything anew
pub record KeepsWaitFacts (s : ClientFiles) : Type 0 where
  pub table : IsTable s.streams.owners s.streams.entries
  pub at_streams : DataAreAtStreams s
  pub wants : WaitersWantLocks s
  pub queued : WaitersAreQueued s
  pub rests : s.ready ≡ []

-- so it is when the cluster begins
abbrev pub BeginsWithWaitFacts : Type 0
BeginsWithWaitFacts = (c : Description) (kernel : ℕ) → KeepsWaitFacts (boots c kernel).files

-- each step of the files' side by itself keeps it
abbrev pub FileStepKeepsWaitFacts : Type 0
FileStepKeepsWaitFacts = (s : ClientFiles) (input : Input) (next : TxNo) (step : ℕ) → MayCome input s → Rests s → KeepsWaitFacts s → KeepsWaitFacts (files_step s input next step).0

-- and what a process does between two calls
abbrev pub ImageKeepsWaitFacts : Type 0
ImageKeepsWaitFacts = (s : ClientProcs) (pid : ℕ) (image : Machine) → KeepsWaitFacts s.files → KeepsWaitFacts (with_image pid image s).files
