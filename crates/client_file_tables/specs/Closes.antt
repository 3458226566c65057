-- The closes at the end of a process.
use Rattle.std.specs.Prelude.{ℕ, zero, suc, Bool, if◌then◌else◌, List, [], ◌∷◌, ◌++◌, Option, is_some}
use Rattle.stream_table.specs.Owners.{descriptor}
use Rattle.unix_calls.specs.declared.About.{About}
use Rattle.client_file_tables.specs.declared.client_files.ClientFiles.{ClientFiles}
use Rattle.client_file_tables.specs.declared.moves.ClosingOf.TheVariants.{End}
use Rattle.client_file_tables.specs.declared.moves.CloseWork.{CloseWork}
use Rattle.client_file_tables.specs.declared.states.CloseState.TheVariants.{WaitLock}
use Rattle.client_file_tables.specs.declared.pending.Pending.TheVariants.{Close}
use Rattle.client_file_tables.specs.Steps.{starts}

-- whether the process's descriptor is in use
abbrev pub is_used : ℕ → ℕ → ClientFiles → Bool
is_used pid fd s = is_some (descriptor s.streams.owners pid fd)

-- those of the process's first so many descriptors that are in use
abbrev pub fds_under : ℕ → ℕ → ClientFiles → List ℕ
fds_under zero pid s = []
fds_under (suc fd) pid s = if is_used pid fd s then fds_under fd pid s ++ fd ∷ [] else fds_under fd pid s

-- the process's descriptors that are in use, in ascending order
abbrev pub fds_of : ℕ → ClientFiles → List ℕ
fds_of pid s = fds_under 16 pid s

-- the closes at the end of a process
abbrev pub ends_by : Option About → List ℕ → CloseWork
ends_by about fds = record { of = End about; fds = fds; state = WaitLock }

-- the process has ended: its descriptors are closed from now on
abbrev pub closes_all : ℕ → Option About → ClientFiles → ClientFiles
closes_all pid about s = starts pid (Close (ends_by about (fds_of pid s))) s
