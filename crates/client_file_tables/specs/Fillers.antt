-- Whose turn it is to fill blocks.
use Rattle.std.specs.Prelude.{ℕ, ◌==◌, Bool, false, if◌then◌else◌, List, [], ◌∷◌, ◌++◌}
use Rattle.std.specs.List.{list_any}
use Rattle.sprite_ids.specs.Lists.{less}
use Rattle.client_file_tables.specs.declared.client_files.ClientFiles.{ClientFiles}
use Rattle.client_file_tables.specs.Rows.{is_pid}
use Rattle.client_file_tables.specs.Steps.{wakes}

-- whether the process stands first
abbrev pub is_first : ℕ → List ℕ → Bool
is_first pid [] = false
is_first pid (first ∷ rest) = first == pid

-- whether it is the process's turn
abbrev pub is_filling : ℕ → ClientFiles → Bool
is_filling pid s = is_first pid s.fillers

-- the process has its turn behind all others
abbrev pub begins_filling : ℕ → ClientFiles → ClientFiles
begins_filling pid s = if list_any (is_pid pid) s.fillers then s else record s { fillers = s.fillers ++ pid ∷ [] }

-- the process that stands first looks at everything anew
abbrev pub wakes_first : List ℕ → ClientFiles → ClientFiles
wakes_first [] s = s
wakes_first (first ∷ rest) s = wakes first s

abbrev pub wakes_filler : ClientFiles → ClientFiles
wakes_filler s = wakes_first s.fillers s

-- the process stands in no turn any more
abbrev pub drops_filler : ℕ → ClientFiles → ClientFiles
drops_filler pid s = record s { fillers = less (is_pid pid) s.fillers }

-- where it was its turn, the next one has it
abbrev pub leaves_filling : ℕ → ClientFiles → ClientFiles
leaves_filling pid s = if is_filling pid s then wakes_filler (drops_filler pid s) else drops_filler pid s
