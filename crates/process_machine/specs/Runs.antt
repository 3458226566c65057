-- Many steps.
use Rattle.std.specs.Prelude.{◌≡◌, ℕ, zero, suc, ◌<◌, Option, Some, None}
use Rattle.process_machine.specs.declared.call.Call.{Call}
use Rattle.process_machine.specs.declared.call.Call.TheVariants.{BadStep}
use Rattle.process_machine.specs.declared.program.Program.{Program}
use Rattle.process_machine.specs.declared.running.BurstEnd.{BurstEnd}
use Rattle.process_machine.specs.declared.running.BurstEnd.TheVariants as burst
use Rattle.process_machine.specs.Machine.{Machine}
use Rattle.process_machine.specs.Steps.{Step, Moved, AtCall, AtBadStep, AtPage, step_of}
use Rattle.process_machine.specs.Calls.{call_at}

-- the image after a step that moves
abbrev pub moved : Step → Option Machine
moved (Moved m) = Some m
moved AtCall = None
moved AtBadStep = None
moved (AtPage k) = None

-- one instruction more
abbrev pub one_more : Program → Option Machine → Option Machine
one_more p None = None
one_more p (Some m) = moved (step_of p m)

-- the image after that many instructions, none of them a system call or a bad step
abbrev pub ahead : Program → Machine → ℕ → Option Machine
ahead p m zero = Some m
ahead p m (suc n) = one_more p (ahead p m n)

-- a process that does so many instructions without a call makes none
unfoldable pub call_bound : ℕ
call_bound = 40000000000

-- a search for the first call goes on after a step that moves
abbrev pub go_on : (Machine → Option Machine) → Machine → Step → Option Machine
go_on next m (Moved later) = next later
go_on next m AtCall = Some m
go_on next m AtBadStep = Some m
go_on next m (AtPage k) = None

-- the image at the first system call or bad step, if it comes within that many instructions
abbrev pub call_within : Program → ℕ → Machine → Option Machine
call_within p zero m = go_on (λ later. None) m (step_of p m)
call_within p (suc n) m = go_on (call_within p n) m (step_of p m)

-- within the bound
abbrev pub at_next_call : Program → Machine → Option Machine
at_next_call p m = call_within p call_bound m

-- the call at which an image stands, by its step
abbrev pub call_there : Program → Machine → Step → Call
call_there p m AtBadStep = BadStep
call_there p m _ = call_at p m

-- the call of an image that a search found
abbrev pub call_of_next : Program → Option Machine → Option Call
call_of_next p None = None
call_of_next p (Some m) = Some (call_there p m (step_of p m))

-- the first call of a run, a bad step among them
abbrev pub next_call : Program → Machine → Option Call
next_call p m = call_of_next p (at_next_call p m)

-- why a burst ends: at a system call, at a bad step, at its limit or for want of a page
abbrev pub EndsBy : Program → Machine → ℕ → ℕ → BurstEnd → Type 0
EndsBy p m count limit burst.Call = (step_of p m ≡ AtCall) × (count < limit)
EndsBy p m count limit burst.BadStep = (step_of p m ≡ AtBadStep) × (count < limit)
EndsBy p m count limit burst.Limit = count ≡ limit
EndsBy p m count limit (burst.PageNeeded k) = (step_of p m ≡ AtPage k) × (count < limit)
