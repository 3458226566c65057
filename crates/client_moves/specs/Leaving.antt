-- Processes on their way from here.
use Rattle.std.specs.Prelude.{ℕ, ◌==◌, Bool, false, not, if◌then◌else◌, [], ◌∷◌, ◌++◌, Option, Some, None}
use Rattle.std.specs.List.{list_any}
use Rattle.sprite_ids.specs.declared.Grant.{Grant}
use Rattle.sprite_ids.specs.declared.TxNo.{TxNo}
use Rattle.sprite_ids.specs.Lists.{less}
use Rattle.kernel_steps.specs.Rows.{first_under, is_under}
use Rattle.stream_table.specs.declared.Place.{Place}
use Rattle.unix_calls.specs.declared.About.{About}
use Rattle.migrate_freeze.specs.declared.Freeze.{Freeze}
use Rattle.migrate_freeze.specs.declared.MoveStep.{MoveStep}
use Rattle.migrate_freeze.specs.declared.MoveStep.TheVariants as steps
use Rattle.migrate_freeze.specs.OneMove.{OneMove}
use Rattle.migrate_freeze.specs.Moves.{moved_on, step_of}
use Rattle.migrate_freeze.specs.Packing.{body_of}
use Rattle.client_file_tables.specs.declared.MoveState.TheVariants.{WaitLock}
use Rattle.client_file_tables.specs.declared.Pending.TheVariants.{Move}
use Rattle.client_file_tables.specs.Steps.{starts}
use Rattle.client_homes.specs.declared.Leaving.{Leaving}
use Rattle.client_homes.specs.declared.Unfinished.{Unfinished}
use Rattle.client_homes.specs.declared.Unfinished.TheVariants as unfinished
use Rattle.client_homes.specs.declared.ClientProcs.{ClientProcs}
use Rattle.client_homes.specs.Says.{next_tx, sends}
use Rattle.client_homes.specs.Procs.{is_pid}
use Rattle.client_homes.specs.Ends.{keeps_tx}

-- the process is on its way from here, that far
abbrev pub keeps_leaving : ℕ → MoveStep → Option About → ClientProcs → ClientProcs
keeps_leaving pid step about s = record s { leaving = s.leaving ++ (pid, record { step = step; about = about }) ∷ [] }

-- the move of a stream begins
abbrev pub begins_move : ℕ → OneMove → Option About → ClientProcs → ClientProcs
begins_move pid moving about s =
    record s { files = starts pid (Move (record { about = about; stream = moving.item.number; to = moving.freeze.to; state = WaitLock })) s.files }

-- unless it has begun
abbrev pub begins_if : ℕ → OneMove → Option About → ClientProcs → ClientProcs
begins_if pid moving about s = if not (list_any (is_under is_pid pid) s.files.pending) then begins_move pid moving about s else s

abbrev pub moves_next : ℕ → OneMove → Option About → ClientProcs → ClientProcs
moves_next pid moving about s = keeps_leaving pid (steps.Moving moving) about (begins_if pid moving about s)

-- whether a page of the process isn't put yet
abbrev pub puts_page_of : ℕ → Unfinished → Bool
puts_page_of pid (unfinished.PageOut other) = other == pid
puts_page_of pid _ = false

abbrev pub is_page_out : ℕ → TxNo × Unfinished → Bool
is_page_out pid row = puts_page_of pid row.1

-- the process is sent, when its pages are put
abbrev pub sends_process : Freeze → Option About → ClientProcs → ClientProcs
sends_process sent about s = keeps_tx (next_tx s) (unfinished.Transfer sent.process.pid) (sends sent.to about (body_of sent) s)

abbrev pub sends_when_put : ℕ → Freeze → Option About → ClientProcs → ClientProcs
sends_when_put pid sent about s = if list_any (is_page_out pid) s.unfinished then keeps_leaving pid (steps.Sent sent) about s else sends_process sent about s

-- what comes next for it
abbrev pub leaves_as : ℕ → MoveStep → Option About → ClientProcs → ClientProcs
leaves_as pid (steps.Moving moving) about s = moves_next pid moving about s
leaves_as pid (steps.Sent sent) about s = sends_when_put pid sent about s

abbrev pub leaves_by : ℕ → Leaving → ClientProcs → ClientProcs
leaves_by pid leaving s = leaves_as pid leaving.step leaving.about s

abbrev pub leaves_if : ℕ → Option Leaving → ClientProcs → ClientProcs
leaves_if pid (Some leaving) s = leaves_by pid leaving s
leaves_if pid None s = s

-- it is taken out of those on their way
abbrev pub leaving_at : ℕ → ClientProcs → Option Leaving
leaving_at pid s = first_under is_pid pid s.leaving

abbrev pub takes_leaving : ℕ → ClientProcs → ClientProcs
takes_leaving pid s = record s { leaving = less (is_under is_pid pid) s.leaving }

abbrev pub leaves_on : ℕ → ClientProcs → ClientProcs
leaves_on pid s = leaves_if pid (leaving_at pid s) (takes_leaving pid s)

-- the stream that was to move has done so
abbrev pub moved_step : Place → Option Grant → ℕ → MoveStep → MoveStep
moved_step place grant grants (steps.Moving moving) = step_of (moved_on moving place grant grants)
moved_step place grant grants (steps.Sent sent) = steps.Sent sent

abbrev pub notes_move : ℕ → Leaving → Place → Option Grant → ℕ → ClientProcs → ClientProcs
notes_move pid leaving place grant grants s = keeps_leaving pid (moved_step place grant grants leaving.step) leaving.about s

abbrev pub notes_move_if : ℕ → Option Leaving → Place → Option Grant → ℕ → ClientProcs → ClientProcs
notes_move_if pid (Some leaving) place grant grants s = notes_move pid leaving place grant grants s
notes_move_if pid None place grant grants s = s

abbrev pub has_moved : ℕ → Place → Option Grant → ℕ → ClientProcs → ClientProcs
has_moved pid place grant grants s = leaves_on pid (notes_move_if pid (leaving_at pid s) place grant grants (takes_leaving pid s))
