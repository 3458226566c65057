-- What the name calls of a client's kernel wait for: remote calls that it told to go out.
use Rattle.std.specs.Prelude.{◌≡◌, ℕ, Bool, true, false, List, [], ◌++◌, Some, slice_get}
use Rattle.std.specs.List.{AllByRecursion}
use Rattle.sprite_ids.specs.declared.TxNo.{TxNo}
use Rattle.packet_bodies.specs.declared.ReplyBody.TheVariants.{Redirect}
use Rattle.kernel_steps.specs.declared.Input.{Input}
use Rattle.kernel_steps.specs.declared.Input.TheVariants.{Replied}
use Rattle.unix_calls.specs.declared.About.{About}
use Rattle.unix_calls.specs.declared.Event.{Event}
use Rattle.unix_calls.specs.declared.Event.TheVariants.{Send}
use Rattle.unix_calls.specs.declared.SendKind.TheVariants.{Broadcast, Other}
use Rattle.client_file_tables.specs.declared.NameState.{NameState}
use Rattle.client_file_tables.specs.declared.NameState.TheVariants.{Broadcasting, Echoing, Asking}
use Rattle.client_file_tables.specs.declared.Pending.{Pending}
use Rattle.client_file_tables.specs.declared.Pending.TheVariants.{Name}
use Rattle.client_file_tables.specs.Says.{about_of}
use Rattle.client_homes.specs.declared.client.ClientProcs.{ClientProcs}
use Rattle.client_procs.specs.Steps.{client_step}
use Rattle.cause_entries.specs.Causes.{brings_refused}

-- a path, by its parts
abbrev pub Parts : Type 0
Parts = List (List ℕ)

-- the event is one of those that were told
pub record IsTold (told : List Event) (event : Event) : Type 0 where
  pub at : ℕ
  pub there : slice_get told at ≡ Some event

-- for a call, what it waits for was told to go out for its sake: a broadcast to each of the servers, for the server of a prefix for which it may
-- be asked, and an echo or a request to one server
abbrev pub WentOut : (Parts → Bool) → List Event → List ℕ → About → NameState → Type 0
WentOut asks told servers about (Broadcasting tx prefix) = (asks prefix ≡ true) × ((at to : ℕ) → slice_get servers at ≡ Some to → IsTold told (Send tx to (Some about) (Broadcast prefix)))
WentOut asks told servers about (Echoing tx server) = IsTold told (Send tx server (Some about) Other)
WentOut asks told servers about (Asking tx) = (to : ℕ) × IsTold told (Send tx to (Some about) Other)

-- so it is with an operation of the process, where it is a name call
abbrev pub OperationWent : (Parts → Bool) → List Event → List ℕ → ℕ → Pending → Type 0
OperationWent asks told servers pid (Name call) = WentOut asks told servers (about_of pid call.work.number) call.state
OperationWent asks told servers pid operation = Unit {0}

-- and with each of these operations
abbrev pub RowsWent : (Parts → Bool) → List Event → List ℕ → List (ℕ × Pending) → Type 0
RowsWent asks told servers rows = AllByRecursion (λ (row : ℕ × Pending). OperationWent asks told servers row.0 row.1) rows

-- it stays so through each step of a client to which no call comes that is refused as if a server were unreachable, with what the step tells:
-- where servers may be asked for the server of the root, and for that of a path to which a server's answer leads
abbrev pub ClientsWaitSo : Type 0
ClientsWaitSo =
    (asks : Parts → Bool) (told : List Event) (s : ClientProcs) (input : Input) (next : TxNo) (step : ℕ) → brings_refused input ≡ false → asks [] ≡ true
    → ((tx : TxNo) (source : ℕ) (path : Parts) → input ≡ Replied tx source (Redirect path) → asks path ≡ true)
    → RowsWent asks told s.files.servers s.files.pending
    → RowsWent asks (told ++ (client_step s input next step).1.events) (client_step s input next step).0.files.servers (client_step s input next step).0.files.pending
