-- Calls that return, and processes between two calls.
use Rattle.std.specs.Prelude.{ℕ, Bool, false, not, if◌then◌else◌, List, Option, Some, None, option_map}
use Rattle.std.specs.BTreeMap.{is_at}
use Rattle.std.specs.Map.{lookup, set_value}
use Rattle.std.specs.Ordering.{nat_cmp}
use Rattle.sprite_ids.specs.Pid.{home_of}
use Rattle.process_machine.specs.declared.Reply.{Reply}
use Rattle.unix_calls.specs.declared.Event.TheVariants.{Return}
use Rattle.unix_calls.specs.declared.ProgramLine.{ProgramLine}
use Rattle.client_homes.specs.declared.Proc.{Proc}
use Rattle.client_homes.specs.declared.ProcState.TheVariants.{Ready}
use Rattle.client_homes.specs.declared.ClientProcs.{ClientProcs}
use Rattle.client_homes.specs.Says.{notes}
use Rattle.client_homes.specs.Clusters.{given_by}
use Rattle.client_homes.specs.Procs.{proc_at, with_proc}
use Rattle.client_homes.specs.Ends.{dies}
use Rattle.client_devices.specs.Making.{ends_making}
use Rattle.client_moves.specs.declared.returning.Standing.{Standing}
use Rattle.client_moves.specs.declared.returning.Standing.TheVariants.{Dies, Leaves, Stays}
use Rattle.client_moves.specs.Carrying.{holds_master}
use Rattle.client_moves.specs.Freezing.{freezes}

-- the process's call has returned: the reply is put into its image, unless the call made that anew
abbrev pub with_reply : List ProgramLine → Reply → Proc → Proc
with_reply programs reply proc = if not proc.fresh then record proc { image = given_by programs proc.image reply } else proc

abbrev pub returned : List ProgramLine → Reply → Proc → Proc
returned programs reply proc = record (with_reply programs reply proc) { fresh = false; call = None; state = Ready }

abbrev pub returned_with : ℕ → Option Proc → List (ℕ × Proc) → List (ℕ × Proc)
returned_with pid (Some proc) procs = set_value (is_at (nat_cmp pid)) procs proc
returned_with pid None procs = procs

abbrev pub returned_in : List ProgramLine → ℕ → Reply → List (ℕ × Proc) → List (ℕ × Proc)
returned_in programs pid reply procs = returned_with pid (option_map {T = Proc} (returned programs reply) (lookup (is_at (nat_cmp pid)) procs)) procs

abbrev pub has_returned : ℕ → Reply → ClientProcs → ClientProcs
has_returned pid reply s = record s { procs = returned_in s.programs pid reply s.procs }

-- the number of the call that the process came to last
abbrev pub number_at : ℕ → ClientProcs → Option ℕ
number_at pid s = option_map {T = Proc} (λ proc. proc.number) (proc_at pid s)

abbrev pub notes_return_as : ℕ → Reply → Option ℕ → ClientProcs → ClientProcs
notes_return_as pid reply (Some number) s = notes (Return pid number reply) s
notes_return_as pid reply None s = s

abbrev pub notes_return : ℕ → Reply → ClientProcs → ClientProcs
notes_return pid reply s = notes_return_as pid reply (number_at pid s) s

-- what a process does between two calls
abbrev pub standing_of : Proc → Standing
standing_of proc = if proc.killed then Dies else if proc.evict then Leaves else Stays

abbrev pub standing_if : Option Proc → Standing
standing_if (Some proc) = standing_of proc
standing_if None = Stays

abbrev pub standing : ℕ → ClientProcs → Standing
standing pid s = standing_if (proc_at pid s)

-- the process is to leave this kernel, or not
abbrev pub with_evict : Bool → ℕ → ClientProcs → ClientProcs
with_evict evict pid s = with_proc pid (option_map {T = Proc} (λ proc. record proc { evict = evict }) (proc_at pid s)) s

-- it goes home, unless it holds a master's end
abbrev pub goes_or_stays : ℕ → ClientProcs → ClientProcs
goes_or_stays pid s = if holds_master pid s then s else freezes pid (record { to = home_of pid; about = None; program = None }) s

abbrev pub is_evicted : ℕ → ClientProcs → ClientProcs
is_evicted pid s = goes_or_stays pid (with_evict false pid s)

-- it is between two calls
abbrev pub goes_between_as : ℕ → Standing → ClientProcs → ClientProcs
goes_between_as pid Dies s = dies pid s
goes_between_as pid Leaves s = is_evicted pid s
goes_between_as pid Stays s = s

abbrev pub goes_between : ℕ → ClientProcs → ClientProcs
goes_between pid s = goes_between_as pid (standing pid s) s

-- its call returns
abbrev pub finishes_call : ℕ → Reply → ClientProcs → ClientProcs
finishes_call pid reply s = goes_between pid (notes_return pid reply (has_returned pid reply (ends_making pid reply s)))
