-- Whether a process is blocked, and how many instructions it does up to its next call.
use Rattle.std.specs.Prelude.{ℕ, Bool, true, false, if◌then◌else◌, nat_lt}
use Rattle.std.specs.Option.{is_some}
use Rattle.unix_calls.specs.declared.description.Description.{Description}
use Rattle.unix_calls.specs.declared.state.Process.{Process}
use Rattle.unix_calls.specs.State.{Unix, lives}
use Rattle.unix_calls.specs.Answers.{program_at}
use Rattle.unix_calls.specs.After.{blocked}
use Rattle.one_kernel.specs.Verdicts.{way_by}
use Rattle.run_judge.specs.declared.halting.Halt.{Halt}
use Rattle.run_judge.specs.declared.halting.Halt.TheVariants as halt

-- the way of a process to its next call; one in an ask, or of which a kill is pending, comes to none
abbrev pub way_to : Description → Process → ℕ
way_to c p = if is_some p.asking then 0 else (if p.killed then 0 else way_by (program_at c.programs p.image.number) p.image)

-- a process that is blocked or not, after so many instructions
abbrev pub rests_if : Bool → ℕ → Halt
rests_if true way = halt.Rests way
rests_if false way = halt.Free

-- of which so many may be done
abbrev pub halt_by : ℕ → ℕ → Bool → Halt
halt_by left way is = if nat_lt left way then halt.Far else rests_if is way

-- how a process stands
abbrev pub halt_of : Description → ℕ → Unix → Process → Halt
halt_of c left u p = if lives p then halt_by left (way_to c p) (blocked c u p) else halt.Rests 0
