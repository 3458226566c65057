-- Pseudo-devices that are made, and that lose their masters.
use Rattle.std.specs.Prelude.{ℕ, ◌+◌, List, [], ◌∷◌, ◌++◌, Option, Some, None}
use Rattle.std.specs.BTreeMap.{is_at}
use Rattle.std.specs.Map.{remove_entry}
use Rattle.std.specs.Ordering.{nat_cmp}
use Rattle.sprite_ids.specs.declared.DeviceId.{DeviceId}
use Rattle.sprite_ids.specs.declared.Errno.TheVariants as errnos
use Rattle.sprite_ids.specs.Lists.{less, without}
use Rattle.kernel_steps.specs.Rows.{first_under, is_under}
use Rattle.process_machine.specs.declared.Reply.{Reply}
use Rattle.process_machine.specs.declared.Reply.TheVariants.{Value, Error}
use Rattle.pseudo_device.specs.declared.Ask.{Ask}
use Rattle.client_homes.specs.declared.ClientProcs.{ClientProcs}
use Rattle.client_homes.specs.Procs.{is_pid}
use Rattle.client_devices.specs.Tables.{adds_device, asks_at, left_at}
use Rattle.client_devices.specs.Asking.{ends_ask}

-- the next device of the kernel
abbrev pub next_device : ClientProcs → DeviceId
next_device s = record { kernel = s.kernel; number = s.next_device }

-- it is made, with one master
abbrev pub makes_device : ℕ → ClientProcs → ClientProcs
makes_device pid s = record (adds_device s.next_device (record s { next_device = s.next_device + 1 })) { making = s.making ++ (pid, s.next_device) ∷ [] }

-- it is forgotten
abbrev pub forgets_device : ℕ → ClientProcs → ClientProcs
forgets_device device s = record s { devices = remove_entry (is_at (nat_cmp device)) s.devices; getters = without (is_under is_pid device) s.getters }

-- unless it was made
abbrev pub unmakes : ℕ → Reply → ClientProcs → ClientProcs
unmakes device (Error errno) s = forgets_device device s
unmakes device (Value first second bytes) s = s

abbrev pub unmakes_if : Reply → Option ℕ → ClientProcs → ClientProcs
unmakes_if reply (Some device) s = unmakes device reply s
unmakes_if reply None s = s

-- the `pd_make` is answered
abbrev pub ends_making : ℕ → Reply → ClientProcs → ClientProcs
ends_making pid reply s = unmakes_if reply (first_under is_pid pid s.making) (record s { making = less (is_under is_pid pid) s.making })

-- these asks end with NoServer, one after the other
abbrev pub ends_all : List Ask → ClientProcs → ClientProcs
ends_all [] s = s
ends_all (ask ∷ asks) s = ends_all asks (ends_ask ask (Error errnos.NoServer) s)

-- the last master is gone
abbrev pub closes_master : ℕ → ClientProcs → ClientProcs
closes_master device s = ends_all (asks_at device s) (left_at device s)
