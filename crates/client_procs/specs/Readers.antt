-- What is asked of a client kernel between two steps.
use Rattle.std.specs.Prelude.{ℕ, Bool, not, if◌then◌else◌, Option, Some, None, option_map}
use Rattle.process_machine.specs.Machine.{Machine}
use Rattle.client_homes.specs.declared.Proc.{Proc}
use Rattle.client_homes.specs.declared.ClientProcs.{ClientProcs}
use Rattle.client_homes.specs.Procs.{proc_at, with_proc}
use Rattle.home_table.specs.Home.{is_any_living}
use Rattle.client_moves.specs.Evicting.{runs_here}
use Rattle.client_moves.specs.Returning.{number_at}

-- the image of a process that is kept here
abbrev pub image_of : Option Proc → Option Machine
image_of (Some proc) = Some proc.image
image_of None = None

abbrev pub image_in : ℕ → ClientProcs → Option Machine
image_in pid s = if not (runs_here pid s) then None else image_of (proc_at pid s)

-- the number of the last call of a process that is kept here
abbrev pub number_in : ℕ → ClientProcs → Option ℕ
number_in pid s = if not (runs_here pid s) then None else number_at pid s

-- whether every process of this home has ended
abbrev pub all_ended : ClientProcs → Bool
all_ended s = not (is_any_living s.home)

-- the process has that image
abbrev pub with_image : ℕ → Machine → ClientProcs → ClientProcs
with_image pid image s = with_proc pid (option_map {T = Proc} (λ proc. record proc { image = image }) (proc_at pid s)) s
