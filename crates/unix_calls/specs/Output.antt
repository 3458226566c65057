-- What a run prints.
use Rattle.std.specs.Prelude.{codes, ℕ, zero, suc, ◌+◌, ◌/◌, ◌%◌, ◌==◌, ◌&&◌, not, List, [], ◌∷◌, ◌++◌, Option, Some, None, if◌then◌else◌, nat_le, nat_lt, slice_get}
use Rattle.std.specs.Option.{option_map, unwrap_or}
use Rattle.std.specs.List.{flat_map, onto_first}
use Rattle.std.specs.Fmt.{decimal}
use Rattle.sprite_ids.specs.declared.running.Ending.{Ending}
use Rattle.sprite_ids.specs.declared.running.Ending.TheVariants as ending
use Rattle.sprite_ids.specs.declared.running.Finish.{Finish}
use Rattle.sprite_ids.specs.declared.running.Finish.TheVariants as finish
use Rattle.sprite_ids.specs.Pid.{home_of}
use Rattle.unix_calls.specs.declared.description.Description.{Description}
use Rattle.unix_calls.specs.declared.description.ProgramLine.{ProgramLine}
use Rattle.unix_calls.specs.declared.entry.Entry.{Entry}
use Rattle.unix_calls.specs.State.{Process, Unix}
use Rattle.unix_calls.specs.ProcessCalls.{kernel_name}
use Rattle.unix_calls.specs.After.{state_of}

-- a hexadecimal digit, in lower case
abbrev pub hexadecimal : ℕ → ℕ
hexadecimal digit = if nat_lt digit 10 then 48 + digit else 87 + digit

-- bytes 32 to 126 but the backslash print as they are, the others as a backslash and two digits
abbrev pub escape : ℕ → List ℕ
escape b = if nat_le 32 b && nat_le b 126 && not (b == 92) then b ∷ [] else 92 ∷ hexadecimal (b / 16) ∷ hexadecimal (b % 16) ∷ []

-- the lines of a text: each ends with byte 10, and a last one without it counts
abbrev pub lines_of : List ℕ → List (List ℕ)
lines_of [] = []
lines_of (b ∷ bs) = if b == 10 then [] ∷ lines_of bs else onto_first b (lines_of bs)

-- a line of a console
abbrev pub console_line : List ℕ → List ℕ
console_line line = codes "| " ++ flat_map escape line ++ 10 ∷ []

-- how a process ended
abbrev pub ending_text : Option Ending → List ℕ
ending_text None = codes "live"
ending_text (Some (ending.Exit code)) = codes "exit " ++ decimal code
ending_text (Some ending.Bad) = codes "bad"
ending_text (Some ending.Killed) = codes "killed"

-- the name of the program of that number
abbrev pub program_name : List ProgramLine → ℕ → List ℕ
program_name lines zero = []
program_name lines (suc place) = unwrap_or (option_map (λ (line : ProgramLine). line.name) (slice_get lines place)) []

-- the line about a process: its number, the name of its program, its home's name and how it ended
abbrev pub process_line : ℕ → List ℕ → List ℕ → List ℕ → List ℕ
process_line pid name home end = codes "pid " ++ decimal pid ++ codes " " ++ name ++ codes " " ++ home ++ codes " " ++ end ++ 10 ∷ []

-- that line, and the console
abbrev pub process_text : Description → Process → List ℕ
process_text c p =
    process_line p.pid (program_name c.programs p.image.number) (kernel_name c.kernels (home_of p.pid)) (ending_text p.ending)
    ++ flat_map console_line (lines_of p.console)

-- why a run stopped where a process lives
abbrev pub last_line : Finish → List ℕ
last_line finish.Budget = codes "budget\n"
last_line finish.Stalled = codes "stalled\n"
last_line _ = []

-- the output in a state: each process with its console, by ascending number. Where a journal isn't legal there is no state, and
-- the output has no byte; every promise about an output says that the journal is legal
abbrev pub output_in : Description → Option Unix → Finish → List ℕ
output_in c None end = []
output_in c (Some u) end = flat_map (process_text c) u.processes ++ last_line end

-- the output of a journal
abbrev pub output_of : Description → List Entry → Finish → List ℕ
output_of c journal end = output_in c (state_of c journal) end
