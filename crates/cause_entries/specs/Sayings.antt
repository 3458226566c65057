-- What a client's kernel tells of the remote calls for which its name calls wait.
use Rattle.std.specs.Prelude.{◌≡◌, ℕ, ◌<◌, Bool, true, false, List, [], ◌++◌, Some}
use Rattle.std.specs.List.{AllByRecursion}
use Rattle.sprite_ids.specs.declared.TxNo.{TxNo}
use Rattle.packet_bodies.specs.declared.ReplyBody.TheVariants.{Redirect}
use Rattle.kernel_steps.specs.declared.Input.{Input}
use Rattle.kernel_steps.specs.declared.Input.TheVariants.{Replied}
use Rattle.unix_calls.specs.declared.About.{About}
use Rattle.unix_calls.specs.declared.Event.{Event}
use Rattle.unix_calls.specs.declared.Event.TheVariants.{Send}
use Rattle.unix_calls.specs.declared.SendKind.{SendKind}
use Rattle.unix_calls.specs.declared.SendKind.TheVariants.{Broadcast, Other}
use Rattle.client_file_tables.specs.declared.NameState.{NameState}
use Rattle.client_file_tables.specs.declared.NameState.TheVariants.{Broadcasting, Echoing, Asking}
use Rattle.client_file_tables.specs.declared.Pending.{Pending}
use Rattle.client_file_tables.specs.declared.Pending.TheVariants.{Name}
use Rattle.client_file_tables.specs.Says.{about_of}
use Rattle.client_homes.specs.declared.client.ClientProcs.{ClientProcs}
use Rattle.client_procs.specs.Steps.{client_step}
use Rattle.cause_entries.specs.Causes.{brings_refused}
use Rattle.cause_entries.specs.Waits.{Parts}

-- the number of the remote call for which a name call waits, and for what it goes out
abbrev pub awaited : NameState → ℕ
awaited (Broadcasting tx prefix) = tx.0
awaited (Echoing tx server) = tx.0
awaited (Asking tx) = tx.0

abbrev pub kind_of : NameState → SendKind
kind_of (Broadcasting tx prefix) = Broadcast prefix
kind_of (Echoing tx server) = Other
kind_of (Asking tx) = Other

-- whether servers may be asked for the prefix, where a name call waits in a broadcast for it
abbrev pub may_ask : (Parts → Bool) → NameState → Bool
may_ask asks (Broadcasting tx prefix) = asks prefix
may_ask asks (Echoing tx server) = true
may_ask asks (Asking tx) = true

-- an event that the remote call of that number went out tells that it is for the sake of that call, and for that
abbrev pub IsFor : ℕ → About → SendKind → Event → Type 0
IsFor number about kind (Send tx to whose what) = tx.0 ≡ number → (whose ≡ Some about) × (what ≡ kind)
IsFor number about kind event = Unit {0}

-- an event that a remote call went out tells of one below that number
abbrev pub IsBelow : ℕ → Event → Type 0
IsBelow next (Send tx to about kind) = tx.0 < next
IsBelow next event = Unit {0}

abbrev pub AreBelow : ℕ → List Event → Type 0
AreBelow next told = AllByRecursion (IsBelow next) told

-- the remote call for which a name call waits is below that number; each of these events that it went out tells that it is for the sake of the
-- call, and for what; and servers may be asked for its prefix
pub record IsSaid (asks : Parts → Bool) (told : List Event) (next : ℕ) (about : About) (state : NameState) : Type 0 where
  pub below : awaited state < next
  pub each : AllByRecursion (IsFor (awaited state) about (kind_of state)) told
  pub may : may_ask asks state ≡ true

-- so it is with an operation of the process, where it is a name call, and with each of these operations
abbrev pub OperationSaid : (Parts → Bool) → List Event → ℕ → ℕ → Pending → Type 0
OperationSaid asks told next pid (Name call) = IsSaid asks told next (about_of pid call.work.number) call.state
OperationSaid asks told next pid operation = Unit {0}

abbrev pub RowsSaid : (Parts → Bool) → List Event → ℕ → List (ℕ × Pending) → Type 0
RowsSaid asks told next rows = AllByRecursion (λ (row : ℕ × Pending). OperationSaid asks told next row.0 row.1) rows

-- what was told, and the operations that wait, are so; the next remote call has that number
pub record SaysSo (asks : Parts → Bool) (told : List Event) (next : ℕ) (rows : List (ℕ × Pending)) : Type 0 where
  pub told_below : AreBelow next told
  pub rows_said : RowsSaid asks told next rows

-- it stays so through each step of a client to which no call comes that is refused as if a server were unreachable, with what the step tells:
-- where servers may be asked for the server of the root, and for that of a path to which a server's answer leads
abbrev pub ClientsSaySo : Type 0
ClientsSaySo =
    (asks : Parts → Bool) (told : List Event) (s : ClientProcs) (input : Input) (next : TxNo) (step : ℕ) → brings_refused input ≡ false → asks [] ≡ true
    → ((tx : TxNo) (source : ℕ) (path : Parts) → input ≡ Replied tx source (Redirect path) → asks path ≡ true)
    → SaysSo asks told next.0 s.files.pending
    → SaysSo asks (told ++ (client_step s input next step).1.events) (client_step s input next step).1.next.0 (client_step s input next step).0.files.pending
