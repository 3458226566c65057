-- That a process that leaves has the descriptors of each of its streams until that one moves, which every step of a client's kernel keeps.
use Rattle.std.specs.Prelude.{◌≡◌, ℕ, ◌==◌, Bool, true, false, List, Option, Some, None}
use Rattle.std.specs.List.{list_any}
use Rattle.sprite_ids.specs.declared.TxNo.{TxNo}
use Rattle.kernel_steps.specs.declared.Input.{Input}
use Rattle.kernel_steps.specs.Rows.{first_under}
use Rattle.process_machine.specs.Machine.{Machine}
use Rattle.unix_calls.specs.declared.Description.{Description}
use Rattle.stream_table.specs.declared.Carried.{Carried}
use Rattle.stream_table.specs.Owners.{Owner, descriptor}
use Rattle.migrate_freeze.specs.declared.frozen.MoveStep.TheVariants as steps
use Rattle.migrate_freeze.specs.Landing.{IsOneOf}
use Rattle.migrate_freeze.specs.Moves.{is_moved, is_stream}
use Rattle.migrate_freeze.specs.OneMove.{OneMove}
use Rattle.client_file_tables.specs.declared.moves.MoveWork.{MoveWork}
use Rattle.client_file_tables.specs.declared.moves.Report.{Report}
use Rattle.client_file_tables.specs.declared.moves.Report.TheVariants as reports
use Rattle.client_file_tables.specs.declared.pending.Pending.{Pending}
use Rattle.client_file_tables.specs.declared.pending.Pending.TheVariants as operations
use Rattle.client_file_tables.specs.declared.states.MoveState.{MoveState}
use Rattle.client_file_tables.specs.declared.states.MoveState.TheVariants as moves
use Rattle.client_file_tables.specs.Rows.{first_of}
use Rattle.client_homes.specs.declared.client.ClientProcs.{ClientProcs}
use Rattle.client_homes.specs.declared.client.Leaving.{Leaving}
use Rattle.client_homes.specs.Procs.{is_pid}
use Rattle.client_procs.specs.Boot.{boots}
use Rattle.client_procs.specs.CanTake.{can_take}
use Rattle.client_procs.specs.Readers.{with_image}
use Rattle.client_procs.specs.Steps.{client_step}
use Rattle.client_walks.specs.Hands.{brought}
use Rattle.client_walks.specs.PlacesOnce.{InHand, PlacesAreOnce}
use Rattle.client_rounds.specs.OneThing.{OneThingEach}
use Rattle.client_rounds.specs.Rounds.{IsUnderWay}
use Rattle.lock_holders.specs.HolderFacts.{KeepsHolderFacts}

-- whether a move of a stream waits for the server: its descriptors have gone
abbrev pub is_moving_out : MoveState → Bool
is_moving_out moves.WaitLock = false
is_moving_out (moves.MovingOut tx kept place) = true

-- the move that a looked-up operation is
abbrev pub move_in : Option Pending → Option MoveWork
move_in (Some (operations.Name call)) = None
move_in (Some (operations.Data call)) = None
move_in (Some (operations.Sync call)) = None
move_in (Some (operations.Close work)) = None
move_in (Some (operations.Move work)) = Some work
move_in None = None

-- that of a process
abbrev pub move_of : ℕ → List (ℕ × Pending) → Option MoveWork
move_of pid rows = move_in (first_of pid rows)

-- whether a looked-up move waits for the server
abbrev pub is_out : Option MoveWork → Bool
is_out (Some work) = is_moving_out work.state
is_out None = false

-- whether it is reported that a stream of the process has moved
abbrev pub tells_of : ℕ → Report → Bool
tells_of pid (reports.Moved other place grant many) = other == pid
tells_of pid (reports.MasterClosed device) = false
tells_of pid (reports.AllClosed other) = false

abbrev pub has_moved : ℕ → List Report → Bool
has_moved pid told = list_any (tells_of pid) told

-- a process that leaves moves the next of its streams, and has the descriptors of all others that have not moved
pub record IsLeaving (owners : List Owner) (pid : ℕ) (moving : OneMove) : Type 0 where
  pub way : IsUnderWay (steps.Moving moving)
  pub rest : (item : Carried) → IsOneOf moving.freeze.process.streams item → is_moved item.number moving.freeze.moved ≡ false → is_stream moving.item.number item.number ≡ false → descriptor owners pid item.fd ≡ Some item.number

-- a move is of the stream that is next
pub record IsNext (leaving : List (ℕ × Leaving)) (pid : ℕ) (work : MoveWork) : Type 0 where
  pub found : Leaving
  pub moving : OneMove
  pub there : first_under is_pid pid leaving ≡ Some found
  pub step : found.step ≡ steps.Moving moving
  pub same : moving.item.number ≡ work.stream

-- each process that leaves has the descriptors of its streams that have not moved, and of the next one until its move goes to the server; and only
-- the next one moves
pub record MovesInTurn (leaving : List (ℕ × Leaving)) (rows : List (ℕ × Pending)) (owners : List Owner) (told : List Report) : Type 0 where
  pub goes : (pid : ℕ) (found : Leaving) (moving : OneMove) → first_under is_pid pid leaving ≡ Some found → found.step ≡ steps.Moving moving → IsLeaving owners pid moving
  pub held : (pid : ℕ) (found : Leaving) (moving : OneMove) → first_under is_pid pid leaving ≡ Some found → found.step ≡ steps.Moving moving → is_out (move_of pid rows) ≡ false → has_moved pid told ≡ false → descriptor owners pid moving.item.fd ≡ Some moving.item.number
  pub next : (pid : ℕ) (work : MoveWork) → move_of pid rows ≡ Some work → IsNext leaving pid work

abbrev pub StreamsMoveInTurn : ClientProcs → Type 0
StreamsMoveInTurn s = MovesInTurn s.leaving s.files.pending s.files.streams.owners s.files.results

-- between two steps, beside who has locks
pub record KeepsMoveFacts (s : ClientProcs) : Type 0 where
  pub holders : KeepsHolderFacts s.files
  pub moves : StreamsMoveInTurn s

-- so it is when the cluster begins
abbrev pub BeginsWithMoveFacts : Type 0
BeginsWithMoveFacts = (c : Description) (kernel : ℕ) → KeepsMoveFacts (boots c kernel)

-- each step of the whole kernel keeps it that can take what comes
abbrev pub StepKeepsMoveFacts : Type 0
StepKeepsMoveFacts = (s : ClientProcs) (input : Input) (next : TxNo) (step : ℕ) → can_take input s ≡ true → InHand (brought input s) s → PlacesAreOnce s → OneThingEach s → KeepsMoveFacts s → KeepsMoveFacts (client_step s input next step).0

-- and what a process does between two calls
abbrev pub ImageKeepsMoveFacts : Type 0
ImageKeepsMoveFacts = (s : ClientProcs) (pid : ℕ) (image : Machine) → KeepsMoveFacts s → KeepsMoveFacts (with_image pid image s)
