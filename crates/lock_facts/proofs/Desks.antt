-- What the facts of queues see of the files' side: its operations, its stream table, who waits for a lock, and who is woken.
use Rattle.std.proofs.Common.{◌≡◌, ◌⊎◌, ℕ, Bool, true, false, List, Option, Some, None, slice_get}
use Rattle.std.specs.List.{AllByRecursion, list_any}
use Rattle.sprite_ids.specs.declared.StreamNo.{StreamNo}
use Rattle.kernel_steps.specs.Rows.{is_row, is_under}
use Rattle.stream_table.specs.Owners.{Owner, descriptor}
use Rattle.stream_table.specs.Streams.{Table}
use Rattle.client_file_tables.specs.declared.client_files.ClientFiles.{ClientFiles}
use Rattle.client_file_tables.specs.declared.pending.Pending.{Pending}
use Rattle.client_file_tables.specs.declared.pending.Pending.TheVariants as operations
use Rattle.client_file_tables.specs.declared.states.CloseState.{CloseState}
use Rattle.client_file_tables.specs.declared.states.CloseState.TheVariants as closes
use Rattle.client_file_tables.specs.declared.works.DataCall.{DataCall}
use Rattle.client_file_tables.specs.Rows.{same_pid, same_stream}
use Rattle.client_facts.specs.FileFacts.{data_wants, move_wants}
use Rattle.file_walks.specs.Fits.{LeadsThere}
use Rattle.file_facts.proofs.Books.{is_woken}
use Rattle.lock_facts.specs.WaitFacts.{waits_for_lock}
use Rattle.lock_facts.proofs.TableFacts.{Lawful}

pub record Desk : Type 0 where
  pub rows : List (ℕ × Pending)
  pub table : Table
  pub waits : List (StreamNo × ℕ)
  pub ready : List ℕ

abbrev pub desk_of : ClientFiles → Desk
desk_of s = record { rows = s.pending; table = s.streams; waits = s.lock_waits; ready = s.ready }

-- the stream for whose lock an operation waits, by the processes' descriptors
abbrev pub named_by : List Owner → ℕ → Option ℕ → Option StreamNo
named_by owners pid (Some fd) = descriptor owners pid fd
named_by owners pid None = None

abbrev pub close_wants_in : List Owner → ℕ → CloseState → List ℕ → Option StreamNo
close_wants_in owners pid closes.WaitLock fds = named_by owners pid (slice_get fds 0)
close_wants_in owners pid (closes.Closing tx stream) fds = None

abbrev pub wanted_in : List Owner → ℕ → Pending → Option StreamNo
wanted_in owners pid (operations.Name call) = None
wanted_in owners pid (operations.Data call) = data_wants call.state call.stream
wanted_in owners pid (operations.Sync call) = None
wanted_in owners pid (operations.Close work) = close_wants_in owners pid work.state work.fds
wanted_in owners pid (operations.Move work) = move_wants work.state work.stream

-- whether the process stands in the stream's queue
abbrev pub stands_by : ℕ → StreamNo → List (StreamNo × ℕ) → Bool
stands_by pid stream waits = list_any (is_row same_stream same_pid stream pid) waits

-- the operation waits for the lock of a stream, in whose queue it stands
pub record IsQueued (owners : List Owner) (waits : List (StreamNo × ℕ)) (row : ℕ × Pending) : Type 0 where
  pub stream : StreamNo
  pub wanted : wanted_in owners row.0 row.1 ≡ Some stream
  pub stands : stands_by row.0 stream waits ≡ true

-- an operation on a file's data is at a descriptor of its stream; and who waits for a lock is woken, or stands in its queue
pub record Settled (owners : List Owner) (waits : List (StreamNo × ℕ)) (ready : List ℕ) (row : ℕ × Pending) : Type 0 where
  pub leads : LeadsThere owners row.0 row.1
  pub waits_on : waits_for_lock row.1 ≡ true → (is_woken row.0 ready ≡ true) ⊎ IsQueued owners waits row

pub record Sound (d : Desk) : Type 0 where
  pub rows : AllByRecursion (Settled d.table.owners d.waits d.ready) d.rows
  pub lawful : Lawful d.table

-- the process's operation was taken out
pub record Off (pid : ℕ) (d : Desk) : Type 0 where
  pub sound : Sound d
  pub none : list_any (is_under same_pid pid) d.rows ≡ false

-- which is this one, on a file's data
pub record OffAt (pid : ℕ) (call : DataCall) (d : Desk) : Type 0 where
  pub off : Off pid d
  pub leads : descriptor d.table.owners pid call.fd ≡ Some call.stream

abbrev pub Holds : ClientFiles → Type 0
Holds s = Sound (desk_of s)

abbrev pub HoldsOff : ℕ → ClientFiles → Type 0
HoldsOff pid s = Off pid (desk_of s)

abbrev pub HoldsAt : ℕ → DataCall → ClientFiles → Type 0
HoldsAt pid call s = OffAt pid call (desk_of s)
