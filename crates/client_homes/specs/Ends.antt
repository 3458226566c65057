-- Ends of processes that are here.
use Rattle.std.specs.Prelude.{ℕ, ◌+◌, if◌then◌else◌, [], ◌∷◌, ◌++◌, Option, Some, None, option_map}
use Rattle.sprite_ids.specs.Pid.{home_of}
use Rattle.sprite_ids.specs.declared.TxNo.{TxNo}
use Rattle.sprite_ids.specs.declared.Ending.TheVariants.{Killed}
use Rattle.packet_bodies.specs.declared.HomeCall.TheVariants as home_calls
use Rattle.packet_bodies.specs.declared.HomeRequest.{HomeRequest}
use Rattle.packet_bodies.specs.declared.Request.TheVariants as requests
use Rattle.unix_calls.specs.declared.About.{About}
use Rattle.client_homes.specs.declared.process.Proc.{Proc}
use Rattle.client_homes.specs.declared.process.ProcState.TheVariants as states
use Rattle.client_homes.specs.declared.client.Unfinished.{Unfinished}
use Rattle.client_homes.specs.declared.client.Unfinished.TheVariants as unfinished
use Rattle.client_homes.specs.declared.client.ClientProcs.{ClientProcs}
use Rattle.client_file_tables.specs.Closes as files
use Rattle.client_homes.specs.Says.{enters_death, next_tx, sends, with_files}
use Rattle.client_homes.specs.Procs.{in_state, proc_at}
use Rattle.client_homes.specs.Homes.{ends_at, is_native}
use Rattle.client_homes.specs.Waits.{wakes_after}

-- the descriptors of the process are closed from now on
unfoldable pub closes_all : ℕ → Option About → ClientProcs → ClientProcs
closes_all pid about s = with_files (files.closes_all pid about s.files) s

-- what a remote call is for
abbrev pub keeps_tx : TxNo → Unfinished → ClientProcs → ClientProcs
keeps_tx tx call s = record s { unfinished = s.unfinished ++ (tx, call) ∷ [] }

-- the last entry of the process is made
abbrev pub ends : ℕ → Option About → ClientProcs → ClientProcs
ends pid about s = closes_all pid about (in_state pid states.Ending s)

-- the number of the next call of the process
abbrev pub next_call : ℕ → ClientProcs → Option ℕ
next_call pid s = option_map {T = Proc} (λ proc. proc.number + 1) (proc_at pid s)

-- a process of this home has died: the entry, with its end
abbrev pub ends_by_death : About → ClientProcs → ClientProcs
ends_by_death about s = ends_at about.pid Killed (enters_death about s)

-- the death of a process of this home that is here: what follows, and then its descriptors are closed
abbrev pub dies_here : About → ClientProcs → ClientProcs
dies_here about s = ends about.pid None (wakes_after about.pid (ends_by_death about s))

-- what tells a home of the death
abbrev pub death_call : About → HomeRequest
death_call about = record { pid = about.pid; number = about.number; call = home_calls.Exit 257 }

-- the death of a process of another home, which is told
abbrev pub dies_elsewhere : About → ClientProcs → ClientProcs
dies_elsewhere about s =
    keeps_tx (next_tx s) (unfinished.Death about.pid) (in_state about.pid (states.Dying (next_tx s)) (sends (home_of about.pid) None (requests.Home (death_call about)) s))

abbrev pub dies_as : About → ClientProcs → ClientProcs
dies_as about s = if is_native about.pid s then dies_here about s else dies_elsewhere about s

abbrev pub dies_by : ℕ → Option ℕ → ClientProcs → ClientProcs
dies_by pid (Some number) s = dies_as (record { pid = pid; number = number }) s
dies_by pid None s = s

-- the process dies by a kill, as if it had come to its next call
abbrev pub dies : ℕ → ClientProcs → ClientProcs
dies pid s = dies_by pid (next_call pid s) s
