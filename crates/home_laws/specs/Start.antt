-- A home's table at the start, and behind the entries that aren't a home's.
use Rattle.std.specs.Prelude.{◌≡◌, ◌≤◌, ◌==◌, ◌||◌, ℕ, Bool, true, false, if◌then◌else◌, List, [], ◌∷◌, length, Option, Some, None}
use Rattle.process_machine.specs.declared.call.Call.{Call}
use Rattle.process_machine.specs.declared.call.Call.TheVariants as call
use Rattle.process_machine.specs.declared.program.Program.{Program}
use Rattle.home_table.specs.Home.{Table, born}
use Rattle.unix_calls.specs.declared.Description.{Description}
use Rattle.unix_calls.specs.declared.Entry.{Entry}
use Rattle.unix_calls.specs.declared.ProgramLine.{ProgramLine}
use Rattle.unix_calls.specs.declared.StartLine.{StartLine}
use Rattle.unix_calls.specs.declared.entry.Part.{Part}
use Rattle.unix_calls.specs.declared.entry.Part.TheVariants as part
use Rattle.unix_calls.specs.State.{Unix}
use Rattle.unix_calls.specs.Answers.{program_at}
use Rattle.unix_calls.specs.Boot.{boot_of}
use Rattle.unix_calls.specs.After.{after}
use Rattle.unix_frames.specs.Frames.{is_tick, is_wait_call, may}
use Rattle.unix_calls.specs.Laws.{is_last_call}
use Rattle.unix_frames.specs.Order.{AreInOrder}
use Rattle.home_laws.specs.Homes.{TellsTheSame}

-- ---- the start

-- the table after a start line: a process of the home is born, where the line's program is there
abbrev pub with_start : Table → Option Program → Table
with_start table None = table
with_start table (Some program) = born table None

abbrev pub with_line : List ProgramLine → StartLine → Table → Table
with_line programs line table = if line.host == table.home then with_start table (program_at programs line.program) else table

abbrev pub with_lines : List ProgramLine → List StartLine → Table → Table
with_lines programs [] table = table
with_lines programs (line ∷ lines) table = with_lines programs lines (with_line programs line table)

-- a home's table at the start
abbrev pub first_table : Description → ℕ → Table
first_table c home = with_lines c.programs c.starts (record { home = home; births = []; ticks = 0 })

-- the table of each kernel tells at the start the same as the one-kernel Unix, where at most 200 processes start
pub record StartsTell (c : Description) (home : ℕ) : Type 0 where
  pub order : AreInOrder (boot_of c).processes
  pub same : TellsTheSame (first_table c home) (boot_of c)

abbrev pub StartsAsOne : Type 0
StartsAsOne = (c : Description) (home : ℕ) → length c.starts ≤ 200 → 1 ≤ home → home ≤ length c.kernels → StartsTell c home

-- ---- the entries that aren't a home's

-- whether a call makes, ends or kills a process, waits for one or ticks
abbrev pub is_fork : Call → Bool
is_fork call.Fork = true
is_fork _ = false

abbrev pub is_kill : Call → Bool
is_kill (call.Kill target) = true
is_kill _ = false

abbrev pub is_of_homes : Call → Bool
is_of_homes called = is_last_call called || is_tick called || is_fork called || is_wait_call called || is_kill called

-- whether an entry is a home's
abbrev pub is_of_home : Part → Option Call → Bool
is_of_home part.Whole called = may is_of_homes called
is_of_home part.Death called = true
is_of_home part.Ask called = false
is_of_home part.Done called = false

-- each table tells the same behind an entry that isn't a home's
abbrev pub TablesGoOn : Type 0
TablesGoOn = (c : Description) (u v : Unix) (e : Entry) (table : Table) → AreInOrder u.processes → after c u e ≡ Some v → is_of_home e.part e.call ≡ false → TellsTheSame table u → TellsTheSame table v
