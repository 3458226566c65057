-- Masters that wait for asks.
use Rattle.std.specs.Prelude.{ℕ, zero, suc, length, Option, Some, None}
use Rattle.sprite_ids.specs.declared.Errno.TheVariants as errnos
use Rattle.sprite_ids.specs.Lists.{less}
use Rattle.kernel_steps.specs.Rows.{first_under, is_row}
use Rattle.process_machine.specs.declared.Reply.{Reply}
use Rattle.process_machine.specs.declared.Reply.TheVariants.{Error}
use Rattle.pseudo_device.specs.Device.{told}
use Rattle.client_homes.specs.declared.Proc.{Proc}
use Rattle.client_homes.specs.declared.ProcState.{ProcState}
use Rattle.client_homes.specs.declared.ProcState.TheVariants as states
use Rattle.client_homes.specs.declared.ClientProcs.{ClientProcs}
use Rattle.client_homes.specs.Procs.{answers_here, is_pid, proc_at}
use Rattle.client_devices.specs.declared.tables.Taken.{Taken}
use Rattle.client_devices.specs.declared.tables.Taken.TheVariants.{Given, Busy, Empty, Long}
use Rattle.client_devices.specs.Tables.{taken_at, takes_at}

-- how many bytes the ask may have that the process waits for
abbrev pub max_in : ProcState → ℕ
max_in (states.Getting device max) = max
max_in _ = 0

abbrev pub max_for : Option Proc → ℕ
max_for (Some proc) = max_in proc.state
max_for None = 0

abbrev pub max_of : ℕ → ClientProcs → ℕ
max_of pid s = max_for (proc_at pid s)

-- its `pd_get` takes effect, with that reply
abbrev pub ends_getting : ℕ → ℕ → Reply → ClientProcs → ClientProcs
ends_getting device pid reply s = answers_here pid reply (record s { getters = less (is_row is_pid is_pid device pid) s.getters })

-- by what it is told
abbrev pub serves_by : ℕ → ℕ → Taken → ClientProcs → ClientProcs
serves_by device pid (Given ask) s = ends_getting device pid (told ask) s
serves_by device pid Busy s = ends_getting device pid (Error errnos.Busy) s
serves_by device pid Long s = ends_getting device pid (Error errnos.Invalid) s
serves_by device pid Empty s = s

abbrev pub serves_getter : ℕ → ℕ → ClientProcs → ClientProcs
serves_getter device pid s = serves_by device pid (taken_at device (max_of pid s) s) (takes_at device (max_of pid s) s)

-- the first that waits for the device
abbrev pub first_getter : ℕ → ClientProcs → Option ℕ
first_getter device s = first_under is_pid device s.getters

abbrev pub turned_by : ℕ → Option ℕ → ClientProcs → ClientProcs
turned_by device (Some pid) s = serves_getter device pid s
turned_by device None s = s

abbrev pub turned : ℕ → ClientProcs → ClientProcs
turned device s = turned_by device (first_getter device s) s

-- as many turns
abbrev pub turns : ℕ → ℕ → ClientProcs → ClientProcs
turns zero device s = s
turns (suc count) device s = turned device (turns count device s)

-- those that wait are served, in order, until no ask waits any more
abbrev pub serves_getters : ℕ → ClientProcs → ClientProcs
serves_getters device s = turns (length s.getters) device s
