-- What a history comes to, within a bound of instructions.
use Rattle.std.specs.Prelude.{ℕ, ◌+◌, if◌then◌else◌, List, [], ◌∷◌, Option, Some, None, nat_lt}
use Rattle.process_machine.specs.declared.call.Call.{Call}
use Rattle.process_machine.specs.declared.program.Program.{Program}
use Rattle.process_machine.specs.Machine.{Machine}
use Rattle.unix_calls.specs.declared.description.Description.{Description}
use Rattle.unix_calls.specs.declared.entry.Entry.{Entry}
use Rattle.unix_calls.specs.declared.state.Process.{Process}
use Rattle.unix_calls.specs.State.{Unix, lives, process_at}
use Rattle.unix_calls.specs.Answers.{program_at}
use Rattle.unix_calls.specs.Boot.{boot_of}
use Rattle.unix_calls.specs.After.{after}
use Rattle.one_kernel.specs.declared.verdict.Verdict.{Verdict}
use Rattle.one_kernel.specs.declared.verdict.Verdict.TheVariants as verdict
use Rattle.one_kernel.specs.Ways.{way}

-- the way of an image of some program to its call
abbrev pub way_by : Option Program → Machine → ℕ
way_by (Some program) image = way program image
way_by None image = 0

-- the way of a process to the call of an entry; a death has none
abbrev pub way_at : Description → Process → Option Call → ℕ
way_at c p (Some call) = way_by (program_at c.programs p.image.number) p.image
way_at c p None = 0

-- of a process that lives
abbrev pub way_if : Description → Option Call → Option Process → ℕ
way_if c call (Some p) = if lives p then way_at c p call else 0
way_if c call None = 0

-- how many instructions the process of an entry does up to the call of that entry
abbrev pub way_of : Description → Unix → Entry → ℕ
way_of c u e = way_if c e.call (process_at u.processes e.pid)

-- the verdict after an entry, where one Unix kernel makes it
abbrev pub verdict_on : (Unix → Verdict) → ℕ → Option Unix → Verdict
verdict_on next place (Some u) = next u
verdict_on next place None = verdict.NotLegal place

-- the verdict on the entries from a place on, after so many instructions
abbrev pub verdict_from : Description → ℕ → ℕ → ℕ → Unix → List Entry → Verdict
verdict_from c most place cost u [] = verdict.Legal
verdict_from c most place cost u (e ∷ es) =
    if nat_lt most (cost + way_of c u e)
    then verdict.Steps place
    else verdict_on (λ v. verdict_from c most (place + 1) (cost + way_of c u e) v es) place (after c u e)

-- the verdict on a history, whose processes may do so many instructions
abbrev pub verdict_of : Description → ℕ → List Entry → Verdict
verdict_of c most journal = verdict_from c most 1 0 (boot_of c) journal
