-- Steps of the kernel, and the operations that wait.
use Rattle.std.specs.Prelude.{ℕ, ◌==◌, Bool, false, ◌||◌, if◌then◌else◌, List, [], ◌∷◌, ◌++◌}
use Rattle.std.specs.List.{list_any}
use Rattle.sprite_ids.specs.declared.TxNo.{TxNo}
use Rattle.kernel_steps.specs.Outs.{started}
use Rattle.kernel_steps.specs.Rows.{is_under}
use Rattle.client_file_tables.specs.declared.client_files.ClientFiles.{ClientFiles}
use Rattle.client_file_tables.specs.declared.moves.Report.{Report}
use Rattle.client_file_tables.specs.declared.pending.Pending.{Pending}
use Rattle.client_file_tables.specs.declared.pending.Pending.TheVariants.{Data, Sync}
use Rattle.client_file_tables.specs.declared.states.DataState.{DataState}
use Rattle.client_file_tables.specs.declared.states.DataState.TheVariants.{Room}
use Rattle.client_file_tables.specs.declared.states.SyncState.{SyncState}
use Rattle.client_file_tables.specs.declared.states.SyncState.TheVariants.{WaitOther}
use Rattle.client_file_tables.specs.Rows.{same_call}

-- a step begins: nothing is said so far
abbrev pub begins : TxNo → ℕ → ClientFiles → ClientFiles
begins next step s = record s { step = step; out = started next }

-- what was said is handed on
abbrev pub said : ClientFiles → ClientFiles
said s = record s { out = started (record { 0 = 0 }) }

-- the process's operation is kept
abbrev pub keeps : ℕ → Pending → ClientFiles → ClientFiles
keeps pid operation s = record s { pending = s.pending ++ (pid, operation) ∷ [] }

-- the process's operation looks at everything anew in this step
abbrev pub wakes : ℕ → ClientFiles → ClientFiles
wakes pid s = record s { ready = s.ready ++ pid ∷ [] }

-- an operation begins
abbrev pub starts : ℕ → Pending → ClientFiles → ClientFiles
starts pid operation s = wakes pid (keeps pid operation s)

-- the processes' side of the kernel is told
abbrev pub reports : Report → ClientFiles → ClientFiles
reports report s = record s { results = s.results ++ report ∷ [] }

-- whether the remote call is one of this side that has no answer yet
abbrev pub owns : TxNo → ClientFiles → Bool
owns tx s = list_any (is_under same_call tx) s.txs || list_any (is_under same_call tx) s.write_backs

-- whether a reading or writing waits for that write-back
abbrev pub is_room : TxNo → DataState → Bool
is_room tx (Room other) = other.0 == tx.0
is_room tx _ = false

-- whether a sync waits for that write-back, which isn't its own
abbrev pub is_other : TxNo → SyncState → Bool
is_other tx (WaitOther other) = other.0 == tx.0
is_other tx _ = false

-- whether the operation waits for that write-back, which isn't its own
abbrev pub waits_for : TxNo → Pending → Bool
waits_for tx (Data call) = is_room tx call.state
waits_for tx (Sync call) = is_other tx call.state
waits_for tx _ = false

-- the processes whose operations wait for that write-back
abbrev pub woken : TxNo → List (ℕ × Pending) → List ℕ
woken tx [] = []
woken tx (row ∷ rows) = if waits_for tx row.1 then row.0 ∷ woken tx rows else woken tx rows

-- all these look at everything anew
abbrev pub wakes_all : TxNo → ClientFiles → ClientFiles
wakes_all tx s = record s { ready = s.ready ++ woken tx s.pending }
