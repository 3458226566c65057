-- Processes of other homes that are to leave.
use Rattle.std.specs.Prelude.{ℕ, ◌+◌, ◌==◌, Bool, true, false, ◌||◌, not, if◌then◌else◌, List, [], ◌∷◌, Option, Some, None}
use Rattle.std.specs.List.{list_any}
use Rattle.std.specs.Map.{keys_of}
use Rattle.sprite_ids.specs.Pid.{home_of}
use Rattle.client_homes.specs.declared.Proc.{Proc}
use Rattle.client_homes.specs.declared.ProcState.{ProcState}
use Rattle.client_homes.specs.declared.ProcState.TheVariants as states
use Rattle.client_homes.specs.declared.ClientProcs.{ClientProcs}
use Rattle.client_homes.specs.Procs.{proc_at}
use Rattle.client_moves.specs.Returning.{goes_between, with_evict}

-- whether a process in that state doesn't arrive, die or end
abbrev pub is_kept_in : ProcState → Bool
is_kept_in (states.Arriving tx moving) = false
is_kept_in (states.Dying tx) = false
is_kept_in states.Ending = false
is_kept_in _ = true

abbrev pub is_kept_if : Option Proc → Bool
is_kept_if (Some proc) = is_kept_in proc.state
is_kept_if None = false

abbrev pub runs_here : ℕ → ClientProcs → Bool
runs_here pid s = is_kept_if (proc_at pid s)

-- whether it is between two calls
abbrev pub is_ready_in : ProcState → Bool
is_ready_in states.Ready = true
is_ready_in _ = false

abbrev pub is_ready_if : Option Proc → Bool
is_ready_if (Some proc) = is_ready_in proc.state
is_ready_if None = false

abbrev pub is_ready : ℕ → ClientProcs → Bool
is_ready pid s = is_ready_if (proc_at pid s)

-- it leaves at once, where it is between two calls
abbrev pub leaves_if_ready : ℕ → ClientProcs → ClientProcs
leaves_if_ready pid s = if not (is_ready pid s) then s else goes_between pid s

-- it is to leave, where it runs here and has another home
abbrev pub evicts : ℕ → ClientProcs → ClientProcs
evicts pid s = if (home_of pid == s.kernel) || not (runs_here pid s) then s else leaves_if_ready pid (with_evict true pid s)

abbrev pub evicts_all : List ℕ → ClientProcs → ClientProcs
evicts_all [] s = s
evicts_all (pid ∷ pids) s = evicts_all pids (evicts pid s)

-- whether that is due
abbrev pub is_due : ClientProcs → Bool
is_due s = list_any (λ after. after == s.issues) s.evicts

abbrev pub evicts_if_due : ClientProcs → ClientProcs
evicts_if_due s = if not (is_due s) then s else evicts_all (keys_of s.procs) s

-- one call more begins
abbrev pub counts_issue : ClientProcs → ClientProcs
counts_issue s = evicts_if_due (record s { issues = s.issues + 1 })
