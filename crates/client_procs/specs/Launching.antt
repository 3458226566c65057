-- Processes that begin programs.
use Rattle.std.specs.Prelude.{ℕ, ◌+◌, nat_le, Bool, true, if◌then◌else◌, List, Option, Some, None, option_map}
use Rattle.std.specs.List.{position}
use Rattle.std.specs.Cmp.Lexicographic.{pointwise}
use Rattle.std.specs.Prelude.{nat_eq}
use Rattle.process_machine.specs.Fresh.{fresh_machine}
use Rattle.process_machine.specs.Machine.{Machine}
use Rattle.unix_calls.specs.declared.ProgramLine.{ProgramLine}
use Rattle.client_homes.specs.declared.Proc.{Proc}
use Rattle.client_homes.specs.declared.ClientProcs.{ClientProcs}
use Rattle.client_homes.specs.Clusters.{program_line}
use Rattle.client_homes.specs.Procs.{proc_at, with_proc}

-- whether the program has that name
abbrev pub is_program : List ℕ → ProgramLine → Bool
is_program name line = pointwise nat_eq line.name name

-- the number of what stands at that place
abbrev pub numbered : ℕ → Option ℕ
numbered place = if nat_le 255 place then None else Some (place + 1)

abbrev pub numbered_at : Option ℕ → Option ℕ
numbered_at (Some place) = numbered place
numbered_at None = None

-- the number of the program of that name
abbrev pub program_named : List ProgramLine → List ℕ → Option ℕ
program_named programs name = numbered_at (position (is_program name) programs)

-- the image with which a process begins the program of that number
abbrev pub fresh_with : ℕ → Option ProgramLine → Option Machine
fresh_with arg (Some line) = Some (fresh_machine line.program arg)
fresh_with arg None = None

abbrev pub fresh_image : List ProgramLine → ℕ → ℕ → Option Machine
fresh_image programs number arg = fresh_with arg (program_line programs number)

-- the process has that fresh image
abbrev pub freshened : Machine → Proc → Proc
freshened image proc = record proc { image = image; fresh = true }

abbrev pub has_fresh : ℕ → Machine → ClientProcs → ClientProcs
has_fresh pid image s = with_proc pid (option_map {T = Proc} (freshened image) (proc_at pid s)) s

abbrev pub has_fresh_if : ℕ → Option Machine → ClientProcs → ClientProcs
has_fresh_if pid (Some image) s = has_fresh pid image s
has_fresh_if pid None s = s

-- the process begins the program of that number
abbrev pub begins_program : ℕ → ℕ → ℕ → ClientProcs → ClientProcs
begins_program pid number arg s = has_fresh_if pid (fresh_image s.programs number arg) s
