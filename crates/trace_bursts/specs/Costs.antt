-- How many instructions the processes of a trace do.
use Rattle.std.specs.Prelude.{ℕ, ◌+◌, Bool, true, false, if◌then◌else◌, List, [], ◌∷◌, nat_lt, Option, Some, None}
use Rattle.std.specs.Option.{is_some}
use Rattle.process_machine.specs.declared.program.Program.{Program}
use Rattle.process_machine.specs.Machine.{Machine}
use Rattle.process_machine.specs.Runs.{at_next_call}
use Rattle.unix_calls.specs.declared.description.Description.{Description}
use Rattle.unix_calls.specs.declared.event.Rec.{Rec}
use Rattle.unix_calls.specs.declared.state.Process.{Process}
use Rattle.unix_calls.specs.State.{Unix}
use Rattle.unix_calls.specs.Answers.{program_at}
use Rattle.unix_calls.specs.After.{state_of}
use Rattle.one_kernel.specs.Ways.{way}
use Rattle.call_journal.specs.Journal.{journal_of}
use Rattle.trace_walk.specs.Walks.{cost_of}
use Rattle.trace_bursts.specs.Behind.{bursts_behind, is_issued_behind}

-- the way of an image of some program to its next call; none where none comes
abbrev pub call_way : Program → Machine → Option ℕ
call_way program image = if is_some (at_next_call program image) then Some (way program image) else None

abbrev pub way_by : Option Program → Machine → Option ℕ
way_by None image = None
way_by (Some program) image = call_way program image

abbrev pub way_to_call : Description → Process → Option ℕ
way_to_call c p = way_by (program_at c.programs p.image.number) p.image

-- a sum with so many more; none where it passes the bound, or none comes
abbrev pub sum_with : ℕ → ℕ → Option ℕ → Option ℕ
sum_with most sum None = None
sum_with most sum (Some n) = if nat_lt most (sum + n) then None else Some (sum + n)

abbrev pub passes_with : (ℕ → Bool) → Option ℕ → Bool
passes_with next None = true
passes_with next (Some sum) = next sum

-- so many instructions, and the ways of those processes that are to be counted, pass the bound
abbrev pub ways_pass : Description → (ℕ → Bool) → ℕ → ℕ → List Process → Bool
ways_pass c counts most sum [] = nat_lt most sum
ways_pass c counts most sum (p ∷ ps) =
    if nat_lt most sum
    then true
    else if counts p.pid
    then passes_with (λ n. ways_pass c counts most n ps) (sum_with most sum (way_to_call c p))
    else ways_pass c counts most sum ps

-- the processes of a trace pass the bound: up to the calls of its entries, by their bursts behind their last entries, and up to the
-- calls that are issued behind these, of those in the state that its journal leads to
abbrev pub passes_by : Description → ℕ → List Rec → Option Unix → Bool
passes_by c most trace None = false
passes_by c most trace (Some u) =
    ways_pass c (λ pid. is_issued_behind pid trace) most (cost_of c (journal_of trace) + bursts_behind trace) u.processes

abbrev pub passes_bound : Description → ℕ → List Rec → Bool
passes_bound c most trace = passes_by c most trace (state_of c (journal_of trace))
