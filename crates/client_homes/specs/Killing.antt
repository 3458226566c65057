-- How far the kills of processes that are elsewhere have come.
use Rattle.std.specs.Prelude.{ℕ, Bool, true, false, if◌then◌else◌, [], ◌∷◌, ◌++◌, Option, Some, None}
use Rattle.sprite_ids.specs.Lists.{less}
use Rattle.kernel_steps.specs.Rows.{is_under, first_under}
use Rattle.client_homes.specs.declared.client.KillState.{KillState}
use Rattle.client_homes.specs.declared.client.KillState.TheVariants.{Out, Waits}
use Rattle.client_homes.specs.declared.client.ClientProcs.{ClientProcs}
use Rattle.client_homes.specs.Procs.{is_pid}

-- the kill of the process, as far as it has come
abbrev pub kill_at : ℕ → ClientProcs → Option KillState
kill_at pid s = first_under is_pid pid s.kills

-- it has come so far
abbrev pub notes_kill : ℕ → KillState → ClientProcs → ClientProcs
notes_kill pid kill s = record s { kills = s.kills ++ (pid, kill) ∷ [] }

-- it is forgotten
abbrev pub forgets_kill : ℕ → ClientProcs → ClientProcs
forgets_kill pid s = record s { kills = less (is_under is_pid pid) s.kills }

-- whether it waits
abbrev pub is_waiting_kill : KillState → Bool
is_waiting_kill (Out placed) = false
is_waiting_kill Waits = true

abbrev pub is_waiting : Option KillState → Bool
is_waiting (Some kill) = is_waiting_kill kill
is_waiting None = false

-- one that waits is forgotten
abbrev pub forgets_waiting : ℕ → ClientProcs → ClientProcs
forgets_waiting pid s = if is_waiting (kill_at pid s) then forgets_kill pid s else s
