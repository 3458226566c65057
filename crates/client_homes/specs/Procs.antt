-- The processes that are here.
use Rattle.std.specs.Prelude.{ℕ, Bool, true, ◌==◌, Option, Some, None, option_map}
use Rattle.std.specs.BTreeMap.{is_at}
use Rattle.std.specs.Map.{lookup, set_value}
use Rattle.std.specs.Ordering.{nat_cmp}
use Rattle.sprite_ids.specs.declared.TxNo.{TxNo}
use Rattle.process_machine.specs.declared.Reply.{Reply}
use Rattle.unix_calls.specs.declared.Entry.{Entry}
use Rattle.unix_calls.specs.declared.Event.TheVariants.{Enter}
use Rattle.unix_calls.specs.declared.Part.TheVariants.{Whole}
use Rattle.client_homes.specs.declared.process.Proc.{Proc}
use Rattle.client_homes.specs.declared.process.ProcState.{ProcState}
use Rattle.client_homes.specs.declared.process.ProcState.TheVariants.{Returning}
use Rattle.client_homes.specs.declared.client.ClientProcs.{ClientProcs}
use Rattle.client_homes.specs.Says.{notes, gives}

-- whether the two are one process
abbrev pub is_pid : ℕ → ℕ → Bool
is_pid other pid = other == pid

-- whether the two are one remote call
abbrev pub is_call : TxNo → TxNo → Bool
is_call other tx = other.0 == tx.0

-- the process, where it is here
abbrev pub proc_at : ℕ → ClientProcs → Option Proc
proc_at pid s = lookup (is_at (nat_cmp pid)) s.procs

-- the processes with that one as it is now
abbrev pub with_proc : ℕ → Option Proc → ClientProcs → ClientProcs
with_proc pid (Some proc) s = record s { procs = set_value (is_at (nat_cmp pid)) s.procs proc }
with_proc pid None s = s

-- the process is in that state
abbrev pub in_state : ℕ → ProcState → ClientProcs → ClientProcs
in_state pid state s = with_proc pid (option_map {T = Proc} (λ proc. record proc { state = state }) (proc_at pid s)) s

-- a kill of the process is known
abbrev pub killed_at : ℕ → ClientProcs → ClientProcs
killed_at pid s = with_proc pid (option_map {T = Proc} (λ proc. record proc { killed = true }) (proc_at pid s)) s

-- the process's call is answered
abbrev pub replies : ℕ → Reply → ClientProcs → ClientProcs
replies pid reply s = gives pid reply (in_state pid Returning s)

-- the entry of the call that the process is in
abbrev pub entry_of : ℕ → Reply → Proc → Entry
entry_of pid reply proc = record { pid = pid; number = proc.number; part = Whole; call = proc.call; reply = Some reply }

abbrev pub entry_at : ℕ → Reply → ClientProcs → Option Entry
entry_at pid reply s = option_map (entry_of pid reply) (proc_at pid s)

-- the call takes effect, with that reply, which isn't given yet
abbrev pub enters_if : Option Entry → ClientProcs → ClientProcs
enters_if (Some entry) s = notes (Enter entry) s
enters_if None s = s

abbrev pub enters_own : ℕ → Reply → ClientProcs → ClientProcs
enters_own pid reply s = enters_if (entry_at pid reply s) s

-- the call takes effect, and is answered
abbrev pub answers_as : ℕ → Reply → Entry → ClientProcs → ClientProcs
answers_as pid reply entry s = replies pid reply (notes (Enter entry) s)

abbrev pub answers_by : ℕ → Reply → Option Entry → ClientProcs → ClientProcs
answers_by pid reply (Some entry) s = answers_as pid reply entry s
answers_by pid reply None s = s

abbrev pub answers_here : ℕ → Reply → ClientProcs → ClientProcs
answers_here pid reply s = answers_by pid reply (entry_at pid reply s) s
