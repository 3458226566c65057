-- Which answers and ends of remote calls an operation of the files' side takes: what a server answers, and what a kernel gives up; and how many bytes
-- it moves.
use Rattle.std.specs.Prelude.{◌≡◌, ℕ, Bool, true, false, ◌||◌, not, List, length, Option, Some, None}
use Rattle.sprite_ids.specs.declared.TxNo.{TxNo}
use Rattle.process_machine.specs.declared.Call.{Call}
use Rattle.process_machine.specs.declared.Call.TheVariants as calls
use Rattle.packet_bodies.specs.declared.ReplyBody.{ReplyBody}
use Rattle.packet_bodies.specs.declared.ReplyBody.TheVariants as replies
use Rattle.kernel_steps.specs.declared.Input.{Input}
use Rattle.stream_table.specs.Owners.{Owner, descriptor}
use Rattle.kernel_steps.specs.declared.Input.TheVariants as inputs
use Rattle.client_file_tables.specs.declared.client_files.ClientFiles.{ClientFiles}
use Rattle.client_file_tables.specs.declared.pending.Pending.{Pending}
use Rattle.client_file_tables.specs.declared.pending.Pending.TheVariants as operations
use Rattle.client_file_tables.specs.declared.states.DataState.{DataState}
use Rattle.client_file_tables.specs.declared.states.DataState.TheVariants as states
use Rattle.client_file_tables.specs.declared.states.SyncState.{SyncState}
use Rattle.client_file_tables.specs.declared.states.SyncState.TheVariants as syncs
use Rattle.client_file_tables.specs.declared.states.CloseState.{CloseState}
use Rattle.client_file_tables.specs.declared.states.CloseState.TheVariants as closes
use Rattle.client_file_tables.specs.declared.states.MoveState.{MoveState}
use Rattle.client_file_tables.specs.declared.states.MoveState.TheVariants as moves
use Rattle.client_file_tables.specs.declared.works.DataKind.{DataKind}
use Rattle.client_file_tables.specs.declared.works.DataKind.TheVariants as kinds
use Rattle.client_file_tables.specs.Rows.{first_call, first_of, same_call}
use Rattle.client_facts.specs.FileFacts.{is_that_call, own_call}

-- whether a server so answers an operation on a file's data
abbrev pub is_op_answer : ReplyBody → Bool
is_op_answer (replies.Again grant) = true
is_op_answer (replies.Refused why) = true
is_op_answer (replies.Value value) = true
is_op_answer _ = false

-- whether it so answers a move
abbrev pub is_move_answer : ReplyBody → Bool
is_move_answer (replies.Moved grant many) = true
is_move_answer _ = false

-- whether an operation on a file's data that waits so takes the answer to that remote call: what is done at the server is answered as such;
-- a call for which it doesn't wait any more may be answered anyhow
abbrev pub data_takes : TxNo → DataState → ReplyBody → Bool
data_takes tx (states.AtServer own) body = not (same_call own tx) || is_op_answer body
data_takes tx state body = true

abbrev pub move_takes : TxNo → MoveState → ReplyBody → Bool
move_takes tx moves.WaitLock body = true
move_takes tx (moves.MovingOut own kept place) body = not (same_call own tx) || is_move_answer body

-- whether a looked-up operation takes it
abbrev pub takes_answer : TxNo → Option Pending → ReplyBody → Bool
takes_answer tx (Some (operations.Data call)) body = data_takes tx call.state body
takes_answer tx (Some (operations.Move work)) body = move_takes tx work.state body
takes_answer tx operation body = true

-- whether a looked-up operation may see that remote call given up: broadcasts and signs of life are name calls', and no others are given up;
-- one for which it doesn't wait any more may be
abbrev pub may_end : TxNo → Option Pending → Bool
may_end tx (Some (operations.Name call)) = true
may_end tx (Some operation) = not (is_that_call tx (own_call operation))
may_end tx None = true

-- the operation of a looked-up process
abbrev pub operation_of : Option ℕ → List (ℕ × Pending) → Option Pending
operation_of (Some pid) rows = first_of pid rows
operation_of None rows = None

-- what comes fits what the operation waits for whose remote call it is
abbrev pub FitsItsCall : Input → ClientFiles → Type 0
FitsItsCall (inputs.Replied tx source body) s = takes_answer tx (operation_of (first_call tx s.txs) s.pending) body ≡ true
FitsItsCall (inputs.GaveUp tx) s = may_end tx (operation_of (first_call tx s.txs) s.pending) ≡ true
FitsItsCall _ s = Unit {0}

abbrev pub data_begins : DataState → Bool
data_begins states.WaitLock = true
data_begins _ = false

abbrev pub sync_begins : SyncState → Bool
sync_begins syncs.Looking = true
sync_begins _ = false

abbrev pub close_begins : CloseState → Bool
close_begins closes.WaitLock = true
close_begins (closes.Closing tx stream) = false

-- whether a call's operation begins so: it waits for a lock, or for nothing
abbrev pub begins_so : Pending → Bool
begins_so (operations.Name call) = false
begins_so (operations.Data call) = data_begins call.state
begins_so (operations.Sync call) = sync_begins call.state
begins_so (operations.Close work) = close_begins work.state
begins_so (operations.Move work) = false

-- the descriptor that a process's operation on a file's data names leads to its stream
abbrev pub LeadsThere : List Owner → ℕ → Pending → Type 0
LeadsThere owners pid (operations.Data call) = descriptor owners pid call.fd ≡ Some call.stream
LeadsThere owners pid _ = Unit {0}

-- how many bytes an operation on a file's data moves at most
abbrev pub moved_by : DataKind → ℕ
moved_by (kinds.Read many) = many
moved_by (kinds.Write bytes) = length bytes
moved_by (kinds.Seek to) = 0
moved_by kinds.Size = 0

-- and how many any operation does
abbrev pub moved_of : Pending → ℕ
moved_of (operations.Data call) = moved_by call.kind
moved_of _ = 0

-- how many bytes of a file a call moves at most
abbrev pub moved_in : Call → ℕ
moved_in (calls.Read fd many) = many
moved_in (calls.Write fd bytes) = length bytes
moved_in _ = 0
