-- Which entries that call a server unreachable a kernel's step tells.
use Rattle.std.specs.Prelude.{◌≡◌, ℕ, Bool, false, if◌then◌else◌, List, [], ◌∷◌, ◌++◌, Option, Some, None}
use Rattle.sprite_ids.specs.declared.Errno.TheVariants as errno
use Rattle.sprite_ids.specs.declared.TxNo.{TxNo}
use Rattle.process_machine.specs.declared.Call.{Call}
use Rattle.process_machine.specs.declared.Call.TheVariants as calls
use Rattle.process_machine.specs.declared.Reply.TheVariants.{Error}
use Rattle.kernel_steps.specs.declared.Input.{Input}
use Rattle.kernel_steps.specs.declared.Input.TheVariants as inputs
use Rattle.unix_calls.specs.declared.Entry.{Entry}
use Rattle.unix_calls.specs.declared.Event.{Event}
use Rattle.unix_calls.specs.declared.Event.TheVariants as events
use Rattle.unix_calls.specs.declared.Part.TheVariants.{Whole}
use Rattle.call_journal.specs.Calls.{is_unreachable_error}
use Rattle.call_journal.specs.Unreachable.{is_unreachable_entry}
use Rattle.server_kernel.specs.declared.Server.{Server}
use Rattle.server_kernel.specs.Steps.{server_step}
use Rattle.client_file_tables.specs.declared.ClientFiles.{ClientFiles}
use Rattle.client_file_tables.specs.declared.Pending.{Pending}
use Rattle.client_file_tables.specs.declared.Pending.TheVariants.{Name}
use Rattle.client_file_tables.specs.Rows.{first_call, first_of}
use Rattle.client_homes.specs.declared.client.ClientProcs.{ClientProcs}
use Rattle.client_names.specs.Answers.{takes_end}
use Rattle.client_procs.specs.Steps.{client_step}

-- whether an event is the entry of a whole call whose server is called unreachable
abbrev pub is_unreachable_event : Event → Bool
is_unreachable_event (events.Enter entry) = is_unreachable_entry entry
is_unreachable_event event = false

-- the entry of such an event
abbrev pub unreachable_by : Event → List Entry
unreachable_by (events.Enter entry) = if is_unreachable_entry entry then entry ∷ [] else []
unreachable_by event = []

-- the entries of those among some events, in their order
abbrev pub unreachable_in : List Event → List Entry
unreachable_in [] = []
unreachable_in (event ∷ rest) = unreachable_by event ++ unreachable_in rest

-- the entry of a call of the process that is given up: the whole call, whose server is unreachable
abbrev pub given_up : ℕ → ℕ → Call → Entry
given_up pid number call = record { pid = pid; number = number; part = Whole; call = Some call; reply = Some (Error errno.Unreachable) }

-- that of a looked-up operation of the process: only a name call is given up
abbrev pub given_up_by : ℕ → Option Pending → List Entry
given_up_by pid (Some (Name call)) = given_up pid call.work.number call.work.call ∷ []
given_up_by pid operation = []

-- and that of a looked-up process, where its operation waits for that very remote call
abbrev pub given_up_for : Option ℕ → TxNo → List (ℕ × Pending) → List Entry
given_up_for None tx operations = []
given_up_for (Some pid) tx operations = if takes_end tx (first_of pid operations) then given_up_by pid (first_of pid operations) else []

-- what a client enters so: where a remote call is given up, the name call that waits for it, and else nothing
abbrev pub given_up_from : Input → ClientFiles → List Entry
given_up_from (inputs.GaveUp tx) s = given_up_for (first_call tx s.txs) tx s.pending
given_up_from input s = []

-- whether a call that a process comes to is refused as if a server were unreachable; no machine makes such a call
abbrev pub is_refused_so : Call → Bool
is_refused_so (calls.Refused errno) = is_unreachable_error (Some errno)
is_refused_so call = false

-- whether an input has such a call
abbrev pub brings_refused : Input → Bool
brings_refused (inputs.Issued pid number call) = is_refused_so call
brings_refused input = false

-- each step of a client, where no such call comes, calls servers unreachable in exactly these entries
abbrev pub ClientsCallUnreachableSo : Type 0
ClientsCallUnreachableSo = (s : ClientProcs) (input : Input) (next : TxNo) (step : ℕ) → brings_refused input ≡ false → unreachable_in (client_step s input next step).1.events ≡ given_up_from input s.files

-- a step of a server calls none so
abbrev pub ServersCallNoneUnreachable : Type 0
ServersCallNoneUnreachable = (s : Server) (input : Input) (next : TxNo) → unreachable_in (server_step s input next).1.events ≡ []
