-- What a step woke is run, one operation after the other.
use Rattle.std.specs.Prelude.{ℕ, zero, suc, ◌+◌, ◌*◌, List, [], ◌∷◌, length, Option, Some, None}
use Rattle.client_file_tables.specs.declared.ClientFiles.{ClientFiles}
use Rattle.client_file_tables.specs.declared.Pending.{Pending}
use Rattle.client_file_tables.specs.declared.Pending.TheVariants.{Name, Data, Sync, Close, Move}
use Rattle.client_file_tables.specs.Rows.{first_of, less_of}
use Rattle.client_file_tables.specs.Steps.{keeps}
use Rattle.client_streams.specs.Closing.{runs_close}
use Rattle.client_streams.specs.Moving.{runs_move}
use Rattle.client_data.specs.Looks.{looks}
use Rattle.client_data.specs.Sync.{syncs}

-- the process's operation, which is taken out, looks at everything anew; nothing wakes a name call
abbrev pub runs_by : Option Pending → ℕ → ClientFiles → ClientFiles
runs_by (Some (Name call)) pid s = keeps pid (Name call) s
runs_by (Some (Data call)) pid s = looks pid call s
runs_by (Some (Sync call)) pid s = syncs pid call s
runs_by (Some (Close work)) pid s = runs_close pid work s
runs_by (Some (Move work)) pid s = runs_move pid work s
runs_by None pid s = s

abbrev pub runs : ℕ → ClientFiles → ClientFiles
runs pid s = runs_by (first_of pid s.pending) pid (record s { pending = less_of pid s.pending })

-- that of the process that was woken first, where there is one
abbrev pub turned_by : List ℕ → ClientFiles → ClientFiles
turned_by [] s = s
turned_by (pid ∷ pids) s = runs pid (record s { ready = pids })

abbrev pub turned : ClientFiles → ClientFiles
turned s = turned_by s.ready s

-- as many turns
abbrev pub turns : ℕ → ClientFiles → ClientFiles
turns zero s = s
turns (suc count) s = turned (turns count s)

-- how many turns are enough: one for each process that is woken already, and 34 for each operation, as a close may wait for the
-- lock of each of its 16 descriptors and get it in the same step, and every other operation is run at most three times
abbrev pub turns_for : ClientFiles → ℕ
turns_for s = length s.ready + length s.pending * 34

-- what the step woke is run in order, until nothing is left
abbrev pub goes_on : ClientFiles → ClientFiles
goes_on s = turns (turns_for s) s
