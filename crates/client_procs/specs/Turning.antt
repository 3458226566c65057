-- What a step wakes, its replies and reports.
use Rattle.std.specs.Prelude.{ℕ, zero, suc, ◌+◌, ◌*◌, ◌==◌, Bool, ◌&&◌, if◌then◌else◌, List, [], ◌∷◌, length}
use Rattle.process_machine.specs.declared.Reply.{Reply}
use Rattle.client_file_tables.specs.declared.Report.{Report}
use Rattle.client_file_tables.specs.declared.Report.TheVariants as reports
use Rattle.client_files.specs.Turns as files
use Rattle.client_homes.specs.declared.ClientProcs.{ClientProcs}
use Rattle.client_homes.specs.Says.{with_files}
use Rattle.client_devices.specs.Making.{closes_master}
use Rattle.client_moves.specs.Freezing.{takes_proc}
use Rattle.client_moves.specs.Leaving.{has_moved}
use Rattle.client_moves.specs.Returning.{finishes_call}

-- a report of the files' side is taken
abbrev pub takes_report : Report → ClientProcs → ClientProcs
takes_report (reports.Moved pid place grant grants) s = has_moved pid place grant grants s
takes_report (reports.MasterClosed device) s = closes_master device.number s
takes_report (reports.AllClosed pid) s = takes_proc pid s

abbrev pub takes_of : List Report → ClientProcs → ClientProcs
takes_of [] s = s
takes_of (report ∷ rest) s = takes_report report (with_files (record s.files { results = rest }) s)

abbrev pub takes_first : ClientProcs → ClientProcs
takes_first s = takes_of s.files.results s

-- the first reply is given
abbrev pub gives_of : List (ℕ × Reply) → ClientProcs → ClientProcs
gives_of [] s = s
gives_of (row ∷ rest) s = finishes_call row.0 row.1 (with_files (record s.files { out = record s.files.out { replies = rest } }) s)

abbrev pub gives_first : ClientProcs → ClientProcs
gives_first s = gives_of s.files.out.replies s

-- the replies are given, in order, as many as processes are here
abbrev pub gives_turns : ℕ → ClientProcs → ClientProcs
gives_turns zero s = s
gives_turns (suc count) s = gives_first (gives_turns count s)

abbrev pub gives_all : ClientProcs → ClientProcs
gives_all s = gives_turns (length s.procs) s

-- the reports are taken, in order
abbrev pub takes_turns : ℕ → ClientProcs → ClientProcs
takes_turns zero s = s
takes_turns (suc count) s = takes_first (takes_turns count s)

abbrev pub takes_all : ClientProcs → ClientProcs
takes_all s = takes_turns (length s.files.results) s

-- whether nothing is left
abbrev pub is_quiet : ClientProcs → Bool
is_quiet s = (length s.files.ready == 0) && (length s.files.out.replies == 0) && (length s.files.results == 0)

-- a round: what is ready is run, then the replies are given, then the reports taken
abbrev pub turned : ClientProcs → ClientProcs
turned s = if is_quiet s then s else takes_all (gives_all (with_files (files.goes_on s.files) s))

-- as many rounds
abbrev pub turns : ℕ → ClientProcs → ClientProcs
turns zero s = s
turns (suc count) s = turned (turns count s)

-- how many there are, for the processes that are here or leave
abbrev pub rounds_for : ClientProcs → ℕ
rounds_for s = (length s.procs + length s.leaving) * 64 + 64

abbrev pub goes_on : ClientProcs → ClientProcs
goes_on s = turns (rounds_for s) s
