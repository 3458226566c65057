-- Whose the processes are.
use Rattle.std.specs.Prelude.{◌≡◌, ℕ, true, List, Some}
use Rattle.sprite_ids.specs.Pid.{home_of}
use Rattle.unix_calls.specs.declared.Description.{Description}
use Rattle.unix_calls.specs.declared.Entry.{Entry}
use Rattle.unix_calls.specs.declared.state.Process.{Process}
use Rattle.unix_calls.specs.State.{Unix, process_at}
use Rattle.unix_calls.specs.Lawful.{Lawful, is_client_at}
use Rattle.unix_calls.specs.After.{state_of}

-- each process's home is a client, in each state of a history
abbrev pub ProcessesAreOfClients : Type 0
ProcessesAreOfClients = (c : Description) (journal : List Entry) (u : Unix) (pid : ℕ) (p : Process) → Lawful c → state_of c journal ≡ Some u → process_at u.processes pid ≡ Some p → is_client_at c.kernels (home_of pid) ≡ true
