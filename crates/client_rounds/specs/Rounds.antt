-- The rounds in which a client's kernel works off what a step set free are enough.
use Rattle.std.specs.Prelude.{◌≡◌, ℕ, ◌+◌, ◌≤◌, ◌==◌, Bool, true, false, not, if◌then◌else◌, List, length, Option, Some, None, is_some}
use Rattle.std.specs.List.{AllByRecursion}
use Rattle.sprite_ids.specs.Lists.{one_if, total}
use Rattle.sprite_ids.specs.declared.TxNo.{TxNo}
use Rattle.packet_bodies.specs.declared.Request.{Request}
use Rattle.packet_bodies.specs.declared.Request.TheVariants as requests
use Rattle.kernel_steps.specs.declared.Input.{Input}
use Rattle.kernel_steps.specs.declared.Input.TheVariants as inputs
use Rattle.process_machine.specs.Machine.{Machine}
use Rattle.migrate_freeze.specs.declared.moves.MovedStream.{MovedStream}
use Rattle.migrate_freeze.specs.declared.freeze.Freeze.{Freeze}
use Rattle.migrate_freeze.specs.declared.frozen.MoveStep.{MoveStep}
use Rattle.migrate_freeze.specs.declared.frozen.MoveStep.TheVariants as steps
use Rattle.migrate_freeze.specs.Landing.{Took, moved_all, next_of}
use Rattle.migrate_freeze.specs.Moves.{is_free}
use Rattle.unix_calls.specs.declared.About.{About}
use Rattle.unix_calls.specs.declared.Description.{Description}
use Rattle.client_file_tables.specs.declared.moves.Report.{Report}
use Rattle.client_file_tables.specs.declared.moves.Report.TheVariants as reports
use Rattle.client_file_tables.specs.declared.pending.Pending.{Pending}
use Rattle.client_file_tables.specs.declared.pending.Pending.TheVariants as operations
use Rattle.client_file_tables.specs.Steps.{owns}
use Rattle.client_homes.specs.declared.client.ClientProcs.{ClientProcs}
use Rattle.client_homes.specs.declared.client.Leaving.{Leaving}
use Rattle.client_homes.specs.declared.client.Parked.{Parked}
use Rattle.client_procs.specs.Boot.{boots}
use Rattle.client_procs.specs.Readers.{with_image}
use Rattle.client_procs.specs.Steps.{begins_step, client_step, takes}
use Rattle.client_procs.specs.Turning.{goes_on, is_quiet}
use Rattle.client_facts.specs.FileFacts.{QueuesAreOnce, TurnsAreOnce}
use Rattle.client_facts.specs.GoingOn.{ClosesAreShort}
use Rattle.client_facts.specs.HomeFacts.{is_own}

-- one for a row of that process
abbrev pub of_process : {V : Type 0} → ℕ → ℕ × V → ℕ
of_process pid row = one_if (row.0 == pid)

-- What a process waits for

-- whether an operation is more than a move of a stream: it ends in a reply, or in its process's end
abbrev pub is_work : Pending → Bool
is_work (operations.Name call) = true
is_work (operations.Data call) = true
is_work (operations.Sync call) = true
is_work (operations.Close work) = true
is_work (operations.Move work) = false

abbrev pub work_of : ℕ → ℕ × Pending → ℕ
work_of pid row = if is_work row.1 then of_process pid row else 0

-- a report that all its descriptors are closed
abbrev pub end_of : ℕ → Report → ℕ
end_of pid (reports.Moved other place grant grants) = 0
end_of pid (reports.MasterClosed device) = 0
end_of pid (reports.AllClosed other) = one_if (other == pid)

-- a `wait` of a process that is here, which is parked
abbrev pub wait_of : ℕ → ℕ × Parked → ℕ
wait_of pid row = if is_own row then of_process pid row else 0

-- an ask of a process that is here
abbrev pub is_own_ask : About × Option TxNo → Bool
is_own_ask row = not (is_some row.1)

abbrev pub ask_of : ℕ → About × Option TxNo → ℕ
ask_of pid row = if is_own_ask row then one_if (row.0.pid == pid) else 0

-- how much is on its way to the process: operations, replies, its end, parked `wait`s and asks
abbrev pub due_to : ℕ → ClientProcs → ℕ
due_to pid s =
    total (work_of pid) s.files.pending + total (of_process pid) s.files.out.replies + total (end_of pid) s.files.results
    + total (wait_of pid) s.waits + total (ask_of pid) s.asked

-- how often it is here, and how often it leaves
abbrev pub here : ℕ → ClientProcs → ℕ
here pid s = total (of_process pid) s.procs

abbrev pub leaves : ℕ → ClientProcs → ℕ
leaves pid s = total (of_process pid) s.leaving

-- how many of its streams move or have just moved
abbrev pub move_of : ℕ → ℕ × Pending → ℕ
move_of pid row = if is_work row.1 then 0 else of_process pid row

abbrev pub moved_of : ℕ → Report → ℕ
moved_of pid (reports.Moved other place grant grants) = one_if (other == pid)
moved_of pid (reports.MasterClosed device) = 0
moved_of pid (reports.AllClosed other) = 0

abbrev pub moves_of : ℕ → ClientProcs → ℕ
moves_of pid s = total (move_of pid) s.files.pending + total (moved_of pid) s.files.results

-- how many moves a frozen process has room for
abbrev pub room_in : List (Option MovedStream) → ℕ
room_in places = total (λ (place : Option MovedStream). one_if (is_free place)) places

-- all its streams have moved when that room is used up, and there is room for 16 at most
pub record MovesFit (freeze : Freeze) : Type 0 where
  pub few : room_in freeze.moved ≤ 16
  pub end : (moves : List Took) → room_in freeze.moved ≤ length moves → next_of (moved_all moves freeze) ≡ None

-- a process that leaves moves the next of its streams, and they fit
abbrev pub IsUnderWay : MoveStep → Type 0
IsUnderWay (steps.Moving moving) = (next_of moving.freeze ≡ Some moving.item) × MovesFit moving.freeze
IsUnderWay (steps.Sent sent) = Unit {0}

-- what must be so, that the rounds are enough: on its way to a process is one thing at most, and to none that isn't here; only streams of
-- processes that leave move, one at a time; no process is here and leaves, or is so twice; and what the turns of the files' side need
pub record MayTurn (s : ClientProcs) : Type 0 where
  pub due : (pid : ℕ) → due_to pid s ≤ here pid s
  pub moves : (pid : ℕ) → moves_of pid s ≤ leaves pid s
  pub apart : (pid : ℕ) → here pid s + leaves pid s ≤ 1
  pub ways : AllByRecursion (λ (row : ℕ × Leaving). IsUnderWay row.1.step) s.leaving
  pub turns : TurnsAreOnce s.files
  pub queues : QueuesAreOnce s.files
  pub short : ClosesAreShort s.files

-- then nothing is left behind the rounds: nothing is ready, no reply is to be given and no report to be taken
abbrev pub RoundsAreEnough : Type 0
RoundsAreEnough = (s : ClientProcs) → MayTurn s → is_quiet (goes_on s) ≡ true

-- and the rounds keep it
abbrev pub RoundsKeepThis : Type 0
RoundsKeepThis = (s : ClientProcs) → MayTurn s → MayTurn (goes_on s)

-- so it is when the cluster begins
abbrev pub BeginsSo : Type 0
BeginsSo = (d : Description) (kernel : ℕ) → MayTurn (boots d kernel)

-- and what a process does between two calls keeps it
abbrev pub ImagesKeepThis : Type 0
ImagesKeepThis = (s : ClientProcs) (pid : ℕ) (image : Machine) → MayTurn s → MayTurn (with_image pid image s)

-- whether what comes is for the files' side: a callback, an answer to a remote call of its own, the end of one that is given up, or a
-- block that is due
abbrev pub IsCallback : Request → Type 0
IsCallback (requests.Callback request) = Unit {0}
IsCallback _ = ⊥

abbrev pub ComesToFiles : Input → ClientProcs → Type 0
ComesToFiles (inputs.Issued pid number call) s = ⊥
ComesToFiles (inputs.Request tx source body) s = IsCallback body
ComesToFiles (inputs.Replied tx source body) s = owns tx s.files ≡ true
ComesToFiles (inputs.GaveUp tx) s = Unit {0}
ComesToFiles (inputs.Due file block) s = Unit {0}
ComesToFiles (inputs.PageNeeded pid page) s = ⊥

-- then the rounds of the step are enough
abbrev pub FileStepsAreEnough : Type 0
FileStepsAreEnough = (s : ClientProcs) (input : Input) (next : TxNo) (step : ℕ) → ComesToFiles input s → MayTurn s → is_quiet (goes_on (takes input (begins_step next step s))) ≡ true

-- and the step keeps what they need
abbrev pub FileStepsKeepThis : Type 0
FileStepsKeepThis = (s : ClientProcs) (input : Input) (next : TxNo) (step : ℕ) → ComesToFiles input s → MayTurn s → MayTurn (client_step s input next step).0
