-- The summary of a run.
use Rattle.std.specs.Prelude.{codes, ℕ, ◌+◌, ◌==◌, Bool, true, false, List, [], ◌∷◌, ◌++◌, Option, Some, None, count_by, length}
use Rattle.std.specs.Fmt.{decimal}
use Rattle.sprite_ids.specs.declared.Ending.{Ending}
use Rattle.sprite_ids.specs.declared.Ending.TheVariants as ending
use Rattle.sprite_ids.specs.declared.Finish.{Finish}
use Rattle.unix_calls.specs.After.{state_of}
use Rattle.unix_calls.specs.Output.{last_line}
use Rattle.unix_calls.specs.State.{Unix}
use Rattle.unix_calls.specs.declared.Process.{Process}
use Rattle.unix_calls.specs.declared.Description.{Description}
use Rattle.unix_calls.specs.declared.Entry.{Entry}
use Rattle.report_print.specs.declared.summaries.Tally.{Tally}

-- whether a process has ended with code 0
abbrev pub is_exit_0 : Option Ending → Bool
is_exit_0 (Some (ending.Exit code)) = code == 0
is_exit_0 other = false

-- how many bytes processes printed
abbrev pub console_bytes : List Process → ℕ
console_bytes [] = 0
console_bytes (process ∷ processes) = length process.console + console_bytes processes

-- how many processes there are, how many of them have ended with code 0, and how many bytes they printed
abbrev pub tally_of : List Process → Tally
tally_of processes = record { processes = length processes; exited = count_by (λ (p : Process). is_exit_0 p.ending) processes; console = console_bytes processes }

-- those of a state; none where there is none
abbrev pub tally_in : Option Unix → Tally
tally_in None = tally_of []
tally_in (Some u) = tally_of u.processes

-- the lines of a workload of that many processes that came to that
abbrev pub summary_text : ℕ → Tally → List ℕ
summary_text count tally =
    codes "load " ++ decimal count ++ codes "\nprocesses " ++ decimal tally.processes ++ codes "\nexited " ++ decimal tally.exited ++ codes "\nconsole " ++ decimal tally.console ++ 10 ∷ []

-- the summary of a journal, and why the run stopped where a process lives
abbrev pub summary_of : ℕ → Description → List Entry → Finish → List ℕ
summary_of count c journal end = summary_text count (tally_in (state_of c journal)) ++ last_line end
