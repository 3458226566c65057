-- Pages that are away.
use Rattle.std.specs.Prelude.{ℕ, zero, suc, not, if◌then◌else◌, List, Option, Some, None, is_some, length}
use Rattle.process_machine.specs.Memory.{page_of}
use Rattle.packet_bodies.specs.declared.Request.TheVariants.{PageIn}
use Rattle.client_homes.specs.declared.process.Proc.{Proc}
use Rattle.client_homes.specs.declared.process.ProcState.TheVariants.{ForkPages}
use Rattle.client_homes.specs.declared.client.Unfinished.TheVariants as unfinished
use Rattle.client_homes.specs.declared.client.ClientProcs.{ClientProcs}
use Rattle.client_homes.specs.Says.{next_tx, sends}
use Rattle.client_homes.specs.Procs.{in_state, proc_at}
use Rattle.client_homes.specs.Ends.{keeps_tx}

-- the page is fetched
abbrev pub fetches : ℕ → ℕ → ClientProcs → ClientProcs
fetches pid page s = keeps_tx (next_tx s) (unfinished.PageIn pid) (sends s.swap_server None (PageIn pid page) s)

-- the process's `fork` waits for it
abbrev pub fetches_for_fork : ℕ → ℕ → ClientProcs → ClientProcs
fetches_for_fork pid page s = in_state pid (ForkPages (next_tx s) page) (fetches pid page s)

-- the page that was found, else the next one where it is away
abbrev pub sooner : Option ℕ → List (Option (List ℕ)) → ℕ → Option ℕ
sooner (Some found) pages page = Some found
sooner None pages page = if not (is_some (page_of pages page)) then Some page else None

-- the least page under that number that is away
abbrev pub away_under : ℕ → List (Option (List ℕ)) → Option ℕ
away_under zero pages = None
away_under (suc page) pages = sooner (away_under page pages) pages page

-- the least page that is away
abbrev pub first_away : List (Option (List ℕ)) → Option ℕ
first_away pages = away_under (length pages) pages

abbrev pub page_away_of : Option Proc → Option ℕ
page_away_of (Some proc) = first_away proc.image.pages
page_away_of None = None

abbrev pub page_away : ℕ → ClientProcs → Option ℕ
page_away pid s = page_away_of (proc_at pid s)
