-- Which request goes out for a client's operation on files, by the stage in which the operation waits for the answer.
use Rattle.std.specs.Prelude.{◌≡◌, ℕ, ◌+◌, Bool, true, false, List, [], ◌∷◌, Option, Some, None, slice_get}
use Rattle.sprite_ids.specs.declared.FileId.{FileId}
use Rattle.sprite_ids.specs.declared.Tries.{Tries}
use Rattle.sprite_ids.specs.declared.Tries.TheVariants.{Always, Eight}
use Rattle.sprite_ids.specs.declared.TxNo.{TxNo}
use Rattle.packet_bodies.specs.declared.Request.{Request}
use Rattle.packet_bodies.specs.declared.Request.TheVariants as requests
use Rattle.kernel_steps.specs.declared.Sending.{Sending}
use Rattle.client_file_tables.specs.declared.names.NameKind.{NameKind}
use Rattle.client_file_tables.specs.declared.names.NameKind.TheVariants as kinds
use Rattle.client_file_tables.specs.declared.pending.Pending.{Pending}
use Rattle.client_file_tables.specs.declared.pending.Pending.TheVariants as operations
use Rattle.client_file_tables.specs.declared.states.CloseState.{CloseState}
use Rattle.client_file_tables.specs.declared.states.CloseState.TheVariants as closes
use Rattle.client_file_tables.specs.declared.states.DataState.{DataState}
use Rattle.client_file_tables.specs.declared.states.DataState.TheVariants as states
use Rattle.client_file_tables.specs.declared.states.MoveState.{MoveState}
use Rattle.client_file_tables.specs.declared.states.MoveState.TheVariants as moves
use Rattle.client_file_tables.specs.declared.states.NameState.{NameState}
use Rattle.client_file_tables.specs.declared.states.NameState.TheVariants as names
use Rattle.client_file_tables.specs.declared.states.SyncState.{SyncState}
use Rattle.client_file_tables.specs.declared.states.SyncState.TheVariants as syncs
use Rattle.client_file_tables.specs.declared.works.WriteBackOut.{WriteBackOut}

-- ---- kinds of requests

abbrev pub is_echo : Request → Bool
is_echo requests.Echo = true
is_echo body = false

abbrev pub is_prefix : Request → Bool
is_prefix (requests.Prefix path) = true
is_prefix body = false

abbrev pub is_opening : Request → Bool
is_opening (requests.Opening r) = true
is_opening body = false

abbrev pub is_name : Request → Bool
is_name (requests.Name r) = true
is_name body = false

abbrev pub is_make : Request → Bool
is_make (requests.Make r) = true
is_make body = false

abbrev pub is_close : Request → Bool
is_close (requests.Close r) = true
is_close body = false

abbrev pub is_op : Request → Bool
is_op (requests.Op r) = true
is_op body = false

abbrev pub is_fetch : Request → Bool
is_fetch (requests.Fetch r) = true
is_fetch body = false

abbrev pub is_write_back : Request → Bool
is_write_back (requests.WriteBack r) = true
is_write_back body = false

abbrev pub is_move : Request → Bool
is_move (requests.Move r) = true
is_move body = false

-- ---- what an operation sends

-- a name call asks its server by what it is
abbrev pub is_name_call : NameKind → Request → Bool
is_name_call (kinds.Open flags stream fd) body = is_opening body
is_name_call (kinds.Make device stream fd) body = is_make body
is_name_call (kinds.Name op second max) body = is_name body

-- it broadcasts for the server of a prefix, asks a server for a sign of life, and then for what is called
abbrev pub name_sends : NameState → NameKind → Request → Bool
name_sends (names.Broadcasting tx prefix) kind body = is_prefix body
name_sends (names.Echoing tx server) kind body = is_echo body
name_sends (names.Asking tx) kind body = is_name_call kind body

-- an operation on a file's data fetches a block, or is done at the server
abbrev pub data_sends : DataState → Request → Bool
data_sends (states.Fetching tx block) body = is_fetch body
data_sends (states.AtServer tx) body = is_op body
data_sends state body = false

abbrev pub sync_sends : SyncState → Request → Bool
sync_sends (syncs.WaitOwn tx) body = is_write_back body
sync_sends state body = false

abbrev pub close_sends : CloseState → Request → Bool
close_sends closes.WaitLock body = false
close_sends (closes.Closing tx stream) body = is_close body

abbrev pub move_sends : MoveState → Request → Bool
move_sends moves.WaitLock body = false
move_sends (moves.MovingOut tx kept place) body = is_move body

-- whether an operation that waits so for its own remote call sent that request
abbrev pub sends_so : Pending → Request → Bool
sends_so (operations.Name call) body = name_sends call.state call.work.kind body
sends_so (operations.Data call) body = data_sends call.state body
sends_so (operations.Sync call) body = sync_sends call.state body
sends_so (operations.Close work) body = close_sends work.state body
sends_so (operations.Move work) body = move_sends work.state body

-- how often it is tried: a broadcast and a sign of life eight times, anything else until it is answered
abbrev pub name_tries : NameState → Tries
name_tries (names.Broadcasting tx prefix) = Eight
name_tries (names.Echoing tx server) = Eight
name_tries (names.Asking tx) = Always

abbrev pub tries_of : Pending → Tries
tries_of (operations.Name call) = name_tries call.state
tries_of operation = Always

-- to which kernel it goes, where the operation tells that: to the server of its file, or to the one that is asked for a sign of life
abbrev pub name_goes : NameState → Option ℕ
name_goes (names.Echoing tx server) = Some server
name_goes state = None

abbrev pub data_goes : DataState → FileId → Option ℕ
data_goes (states.Fetching tx block) file = Some file.server
data_goes (states.AtServer tx) file = Some file.server
data_goes state file = None

abbrev pub sync_goes : SyncState → FileId → Option ℕ
sync_goes (syncs.WaitOwn tx) file = Some file.server
sync_goes state file = None

abbrev pub goes_to : Pending → Option ℕ
goes_to (operations.Name call) = name_goes call.state
goes_to (operations.Data call) = data_goes call.state call.file
goes_to (operations.Sync call) = sync_goes call.state call.file
goes_to operation = None

-- ---- what goes out in a step

-- what a remote call is: the requests that it may be of, how often it is tried, and to which kernel it goes, where that is known
pub record Wanted : Type 0 where
  pub such : Request → Bool
  pub tries : Tries
  pub to : Option ℕ

-- that of an operation which waits for it, and that of a write-back
abbrev pub wanted_of : Pending → Wanted
wanted_of operation = record { such = sends_so operation; tries = tries_of operation; to = goes_to operation }

abbrev pub write_back_wanted : WriteBackOut → Wanted
write_back_wanted back = record { such = is_write_back; tries = Always; to = Some back.file.server }

-- it goes to that kernel alone, where one is known
abbrev pub GoesTo : Option ℕ → List ℕ → Type 0
GoesTo None kernels = Unit {0}
GoesTo (Some kernel) kernels = kernels ≡ kernel ∷ []

-- of remote calls that begin one after the other, the first with that number, the one with that number is such
pub record IsSent (first : ℕ) (sends : List Sending) (tx : TxNo) (wanted : Wanted) : Type 0 where
  pub at : ℕ
  pub sending : Sending
  pub there : slice_get sends at ≡ Some sending
  pub number : tx.0 ≡ first + at
  pub asks : wanted.such sending.body ≡ true
  pub tries : sending.tries ≡ wanted.tries
  pub to : GoesTo wanted.to sending.to
