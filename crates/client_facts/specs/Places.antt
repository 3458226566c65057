-- Which facts of processes the rounds of a step keep, whatever was woken.
use Rattle.std.specs.Prelude.{◌≡◌, ℕ, false, List}
use Rattle.std.specs.List.{list_any}
use Rattle.sprite_ids.specs.declared.TxNo.{TxNo}
use Rattle.packet_bodies.specs.declared.Request.{Request}
use Rattle.kernel_steps.specs.Rows.{is_under}
use Rattle.client_homes.specs.declared.client.ClientProcs.{ClientProcs}
use Rattle.client_homes.specs.Births.{makes_child}
use Rattle.client_homes.specs.Kills.{is_here, meets_kill}
use Rattle.client_homes.specs.Procs.{is_pid, killed_at}
use Rattle.client_moves.specs.Evicting.{evicts_all}
use Rattle.client_procs.specs.Arriving.{arrives}
use Rattle.client_procs.specs.Turning.{goes_on, turned}
use Rattle.client_facts.specs.ProcFacts.{LeavingAreOnce, NoneIsHereAndLeaves, ProcessesAreOnce, ReadyAreFree}

-- each process is here once or leaves once, and not both; and who is ready has neither a call nor a flag
pub record KeepsPlaces (s : ClientProcs) : Type 0 where
  pub once : ProcessesAreOnce s
  pub leaving_once : LeavingAreOnce s
  pub apart : NoneIsHereAndLeaves s
  pub free : ReadyAreFree s

-- a round keeps it
abbrev pub RoundKeepsPlaces : Type 0
RoundKeepsPlaces = (s : ClientProcs) → KeepsPlaces s → KeepsPlaces (turned s)

-- and so do all of them: calls that return, and with them deaths, evictions, freezes, moves of streams and ends
abbrev pub RoundsKeepPlaces : Type 0
RoundsKeepPlaces = (s : ClientProcs) → KeepsPlaces s → KeepsPlaces (goes_on s)

-- an eviction of any processes keeps it
abbrev pub EvictionsKeepPlaces : Type 0
EvictionsKeepPlaces = (pids : List ℕ) (s : ClientProcs) → KeepsPlaces s → KeepsPlaces (evicts_all pids s)

-- and so does a kill that a kernel hears of
abbrev pub KillsKeepPlaces : Type 0
KillsKeepPlaces = (pid : ℕ) (s : ClientProcs) → KeepsPlaces s → KeepsPlaces (meets_kill pid (killed_at pid s))

-- a process that is neither here nor leaves
pub record IsNew (pid : ℕ) (s : ClientProcs) : Type 0 where
  pub gone : is_here pid s ≡ false
  pub stays : list_any (is_under is_pid pid) s.leaving ≡ false

-- the birth of such a one keeps it, also where it dies at once
abbrev pub BirthsKeepPlaces : Type 0
BirthsKeepPlaces = (parent child : ℕ) (s : ClientProcs) → IsNew child s → KeepsPlaces s → KeepsPlaces (makes_child parent child s)

-- what a request brings keeps it: a process of which the kernel knows already isn't taken in; any other goes on here, or is told to its home
abbrev pub ArrivalsKeepPlaces : Type 0
ArrivalsKeepPlaces = (body : Request) (tx : TxNo) (s : ClientProcs) → KeepsPlaces s → KeepsPlaces (arrives tx body s)
