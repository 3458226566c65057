-- Kills: of processes of this home, wherever they are, and of processes that are here, wherever their home is.
use Rattle.std.specs.Prelude.{ℕ, ◌==◌, Bool, true, false, ◌||◌, ◌&&◌, not, if◌then◌else◌, List, [], ◌∷◌, ◌++◌, Option, Some, None, is_some}
use Rattle.sprite_ids.specs.Pid.{home_of}
use Rattle.sprite_ids.specs.declared.TxNo.{TxNo}
use Rattle.sprite_ids.specs.declared.Errno.TheVariants.{Interrupted}
use Rattle.sprite_ids.specs.Lists.{less, without}
use Rattle.kernel_steps.specs.Rows.{is_row, is_under}
use Rattle.process_machine.specs.declared.Reply.TheVariants.{Error}
use Rattle.packet_bodies.specs.declared.ReplyBody.{ReplyBody}
use Rattle.packet_bodies.specs.declared.ReplyBody.TheVariants as bodies
use Rattle.packet_bodies.specs.declared.Request.TheVariants as requests
use Rattle.unix_calls.specs.declared.About.{About}
use Rattle.client_homes.specs.declared.process.Proc.{Proc}
use Rattle.client_homes.specs.declared.process.ProcState.{ProcState}
use Rattle.client_homes.specs.declared.process.ProcState.TheVariants as states
use Rattle.client_homes.specs.declared.kills.Meeting.{Meeting}
use Rattle.client_homes.specs.declared.kills.Meeting.TheVariants.{Dies, Getting, Later}
use Rattle.client_homes.specs.declared.client.KillState.{KillState}
use Rattle.client_homes.specs.declared.client.KillState.TheVariants.{Out, Waits}
use Rattle.client_homes.specs.declared.client.Unfinished.TheVariants as unfinished
use Rattle.client_homes.specs.declared.client.ClientProcs.{ClientProcs}
use Rattle.client_homes.specs.Says.{answers, next_tx, sends}
use Rattle.client_homes.specs.Procs.{answers_here, is_pid, killed_at, proc_at}
use Rattle.client_homes.specs.Homes.{has_ended, moves_to, place_in}
use Rattle.client_homes.specs.Killing.{forgets_kill, kill_at, notes_kill}
use Rattle.client_homes.specs.Waits.{wakes}
use Rattle.client_homes.specs.Ends.{dies, keeps_tx}

-- what the process in that state does when it meets a kill; who waits for a page meets it when the page has come
abbrev pub meeting_in : ProcState → Meeting
meeting_in states.Ready = Dies
meeting_in (states.Getting device max) = Getting device
meeting_in _ = Later

abbrev pub meeting_of : Option Proc → Meeting
meeting_of (Some proc) = meeting_in proc.state
meeting_of None = Later

abbrev pub meeting : ℕ → ClientProcs → Meeting
meeting pid s = meeting_of (proc_at pid s)

-- its `pd_get` is broken off
abbrev pub breaks_off : ℕ → ℕ → ClientProcs → ClientProcs
breaks_off pid device s = answers_here pid (Error Interrupted) (record s { getters = less (is_row is_pid is_pid device pid) s.getters })

-- it meets a kill
abbrev pub meets_as : ℕ → Meeting → ClientProcs → ClientProcs
meets_as pid Dies s = dies pid s
meets_as pid (Getting device) s = breaks_off pid device s
meets_as pid Later s = s

abbrev pub meets_kill : ℕ → ClientProcs → ClientProcs
meets_kill pid s = meets_as pid (meeting pid s) s

-- that kernel is told of the kill
abbrev pub goes_after : Option About → ℕ → ℕ → ClientProcs → ClientProcs
goes_after about pid place s = notes_kill pid (Out false) (keeps_tx (next_tx s) (unfinished.Killed pid) (sends place about (requests.Killed pid) s))

-- whether the process is here
abbrev pub is_here : ℕ → ClientProcs → Bool
is_here pid s = is_some (proc_at pid s)

-- it meets the kill here, or the kill waits for it
abbrev pub takes_kill : ℕ → ClientProcs → ClientProcs
takes_kill target s = if is_here target s then meets_kill target (killed_at target s) else notes_kill target Waits s

-- the first kill of the process is told
abbrev pub tells_kill : About → ℕ → ClientProcs → ClientProcs
tells_kill about target s =
    if place_in target s == s.home.home then wakes target (takes_kill target s) else wakes target (goes_after (Some about) target (place_in target s) s)

-- a row for each `fork` that the process's home has not answered
abbrev pub with_early : ℕ → TxNo × ℕ → List (ℕ × TxNo) → List (ℕ × TxNo)
with_early pid fork early = if fork.1 == home_of pid then early ++ (pid, fork.0) ∷ [] else early

abbrev pub adds_early : ℕ → List (TxNo × ℕ) → List (ℕ × TxNo) → List (ℕ × TxNo)
adds_early pid [] early = early
adds_early pid (fork ∷ forks) early = adds_early pid forks (with_early pid fork early)

-- the kill waits for each `fork` that may bring the process
abbrev pub notes_early : ℕ → ClientProcs → ClientProcs
notes_early pid s = record s { early = adds_early pid s.forks (without (is_under is_pid pid) s.early) }

-- a home tells of the kill of its process
abbrev pub hears_kill : TxNo → ℕ → ClientProcs → ClientProcs
hears_kill tx pid s = if is_here pid s then meets_kill pid (answers tx bodies.Done (killed_at pid s)) else answers tx bodies.Gone (notes_early pid s)

-- whether the answer is Done
abbrev pub is_done : ReplyBody → Bool
is_done bodies.Done = true
is_done _ = false

-- whether the process has come to another kernel since that one was told
abbrev pub is_placed : KillState → Bool
is_placed (Out placed) = placed
is_placed Waits = false

-- the kernel that was told of the kill has answered
abbrev pub kill_answered : ℕ → KillState → ReplyBody → ClientProcs → ClientProcs
kill_answered pid kill body s =
    if is_done body || has_ended pid s || is_here pid s then s
    else if is_placed kill && not (place_in pid s == s.home.home) then goes_after None pid (place_in pid s) s
    else notes_kill pid Waits s

abbrev pub kill_answered_if : ℕ → ReplyBody → Option KillState → ClientProcs → ClientProcs
kill_answered_if pid body (Some kill) s = kill_answered pid kill body s
kill_answered_if pid body None s = s

abbrev pub kill_replied : ℕ → ReplyBody → ClientProcs → ClientProcs
kill_replied pid body s = kill_answered_if pid body (kill_at pid s) (forgets_kill pid s)

-- a process whose kill has come so far has come to that kernel
abbrev pub comes_to : ℕ → ℕ → KillState → ClientProcs → ClientProcs
comes_to pid kernel (Out placed) s = notes_kill pid (Out true) s
comes_to pid kernel Waits s = goes_after None pid kernel s

abbrev pub comes_if : ℕ → ℕ → Option KillState → ClientProcs → ClientProcs
comes_if pid kernel (Some kill) s = comes_to pid kernel kill s
comes_if pid kernel None s = s

-- a process of this home has come to that kernel
abbrev pub tells_place : TxNo → ℕ → ℕ → ClientProcs → ClientProcs
tells_place tx pid kernel s = comes_if pid kernel (kill_at pid s) (forgets_kill pid (answers tx bodies.Done (moves_to pid kernel s)))
