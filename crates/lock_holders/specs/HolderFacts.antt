-- That who has the lock of a stream has an operation that has it, which every step of a client's kernel keeps.
use Rattle.std.specs.Prelude.{◌≡◌, ℕ, Bool, true, false, List, Option, Some, None}
use Rattle.std.specs.List.{AllByRecursion}
use Rattle.sprite_ids.specs.declared.TxNo.{TxNo}
use Rattle.sprite_ids.specs.declared.StreamNo.{StreamNo}
use Rattle.sprite_ids.specs.declared.Object.{Object}
use Rattle.sprite_ids.specs.declared.Object.TheVariants as objects
use Rattle.kernel_steps.specs.declared.Input.{Input}
use Rattle.process_machine.specs.Machine.{Machine}
use Rattle.unix_calls.specs.declared.Description.{Description}
use Rattle.stream_table.specs.declared.Stream.{Stream}
use Rattle.stream_table.specs.Entries.{Entry, stream_of}
use Rattle.stream_table.specs.Owners.{Owner, descriptor}
use Rattle.client_file_tables.specs.declared.client_files.ClientFiles.{ClientFiles}
use Rattle.client_file_tables.specs.declared.pending.Pending.{Pending}
use Rattle.client_file_tables.specs.declared.pending.Pending.TheVariants as operations
use Rattle.client_file_tables.specs.declared.states.MoveState.{MoveState}
use Rattle.client_file_tables.specs.declared.states.MoveState.TheVariants as moves
use Rattle.client_file_tables.specs.Rows.{first_of}
use Rattle.client_homes.specs.declared.client.ClientProcs.{ClientProcs}
use Rattle.client_procs.specs.Boot.{boots}
use Rattle.client_procs.specs.CanTake.{can_take}
use Rattle.client_procs.specs.Readers.{with_image}
use Rattle.client_procs.specs.Steps.{begins_step, client_step, takes}
use Rattle.client_procs.specs.Turning.{turns}
use Rattle.client_facts.specs.FileFacts.{NoneElseHoldsLocks}
use Rattle.client_walks.specs.Hands.{brought}
use Rattle.client_walks.specs.PlacesOnce.{InHand, PlacesAreOnce}
use Rattle.client_rounds.specs.OneThing.{OneThingEach}
use Rattle.holder_facts.specs.QueueFacts.{KeepsQueueFacts}

-- whether a stream is a file's
abbrev pub is_file_object : Object → Bool
is_file_object (objects.File file) = true
is_file_object (objects.Device device) = false
is_file_object (objects.Master device) = false

-- whether a looked-up stream is open here, and a file's
abbrev pub is_file : Option Stream → Bool
is_file (Some stream) = is_file_object stream.object
is_file None = false

-- whether an operation closes or moves a stream: it looks at it anew when it runs
abbrev pub closes_or_moves : Pending → Bool
closes_or_moves (operations.Close work) = true
closes_or_moves (operations.Move work) = true
closes_or_moves operation = false

-- a descriptor of the process leads to the stream
pub record Leads (owners : List Owner) (stream : StreamNo) (pid : ℕ) : Type 0 where
  pub fd : ℕ
  pub leads : descriptor owners pid fd ≡ Some stream

-- which is a file's
pub record LeadsToFile (owners : List Owner) (entries : List Entry) (stream : StreamNo) (pid : ℕ) : Type 0 where
  pub there : Leads owners stream pid
  pub file : is_file (stream_of entries stream) ≡ true

-- who stands in a queue to close or move a stream has a descriptor of it, and it is a file's
abbrev pub StandsAtFile : ClientFiles → StreamNo × ℕ → Type 0
StandsAtFile s row = (operation : Pending) → first_of row.1 s.pending ≡ Some operation → closes_or_moves operation ≡ true → LeadsToFile s.streams.owners s.streams.entries row.0 row.1

abbrev pub QueuedAreAtFiles : ClientFiles → Type 0
QueuedAreAtFiles s = AllByRecursion (StandsAtFile s) s.lock_waits

-- a move that waits for a lock, or for nothing, is of a stream to which a descriptor of its process leads
abbrev pub waits_at : MoveState → List Owner → StreamNo → ℕ → Type 0
waits_at moves.WaitLock owners stream pid = Leads owners stream pid
waits_at (moves.MovingOut tx kept place) owners stream pid = Unit {0}

abbrev pub IsOwn : List Owner → ℕ × Pending → Type 0
IsOwn owners (pid, operations.Move work) = waits_at work.state owners work.stream pid
IsOwn owners (pid, operation) = Unit {0}

abbrev pub MovesAreOwn : ClientFiles → Type 0
MovesAreOwn s = AllByRecursion (IsOwn s.streams.owners) s.pending

-- between two steps, beside the facts of locks, queues and turns: who has a lock has an operation that has it
pub record KeepsHolderFacts (s : ClientFiles) : Type 0 where
  pub queues : KeepsQueueFacts s
  pub none_else : NoneElseHoldsLocks s
  pub at_files : QueuedAreAtFiles s

-- so it is when the cluster begins
abbrev pub BeginsWithHolderFacts : Type 0
BeginsWithHolderFacts = (c : Description) (kernel : ℕ) → KeepsHolderFacts (boots c kernel).files

-- in each round of the step, the moves that are queued or begin are of streams of their processes
abbrev pub MovesStayOwn : ClientProcs → Input → TxNo → ℕ → Type 0
MovesStayOwn s input next step = (count : ℕ) → MovesAreOwn (turns count (takes input (begins_step next step s))).files

-- each step of the whole kernel keeps it that can take what comes
abbrev pub StepKeepsHolderFacts : Type 0
StepKeepsHolderFacts = (s : ClientProcs) (input : Input) (next : TxNo) (step : ℕ) → can_take input s ≡ true → InHand (brought input s) s → PlacesAreOnce s → OneThingEach s → MovesStayOwn s input next step → KeepsHolderFacts s.files → KeepsHolderFacts (client_step s input next step).0.files

-- and what a process does between two calls
abbrev pub ImageKeepsHolderFacts : Type 0
ImageKeepsHolderFacts = (s : ClientProcs) (pid : ℕ) (image : Machine) → KeepsHolderFacts s.files → KeepsHolderFacts (with_image pid image s).files
