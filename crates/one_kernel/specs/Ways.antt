-- The way of an image to its next call.
use Rattle.std.specs.Prelude.{◌≡◌, ◌≤◌, ◌<◌, ℕ, zero, suc, nat_lt, if◌then◌else◌, Some, None}
use Rattle.process_machine.specs.declared.program.Program.{Program}
use Rattle.process_machine.specs.Machine.{Machine}
use Rattle.process_machine.specs.Steps.{Step, Moved, AtCall, AtBadStep, AtPage, step_of}
use Rattle.process_machine.specs.Runs.{at_next_call}
use Rattle.one_kernel.specs.declared.reach.Reach.{Reach}
use Rattle.one_kernel.specs.declared.reach.Reach.TheVariants as reach

-- one instruction more, after a step that moves
abbrev pub way_on : (Machine → ℕ) → Step → ℕ
way_on next (Moved later) = suc (next later)
way_on next AtCall = 0
way_on next AtBadStep = 0
way_on next (AtPage k) = 0

-- how many instructions an image does before its first call or bad step, or a page that is away; at most so many
abbrev pub way_within : Program → ℕ → Machine → ℕ
way_within p zero m = 0
way_within p (suc n) m = way_on (way_within p n) (step_of p m)

-- no way is longer
unfoldable pub way_bound : ℕ
way_bound = 40000010000

abbrev pub way : Program → Machine → ℕ
way p m = way_within p way_bound m

-- what a run came to that may do so many instructions
abbrev pub Reaches : Program → Machine → ℕ → Reach → Machine → Type 0
Reaches p old most (reach.Call n) new = (at_next_call p old ≡ Some new) × (way p old ≡ n) × (n ≤ most) × (step_of p new ≡ AtCall)
Reaches p old most (reach.BadStep n) new = (at_next_call p old ≡ Some new) × (way p old ≡ n) × (n ≤ most) × (step_of p new ≡ AtBadStep)
Reaches p old most reach.TooFar new = most < way p old
Reaches p old most reach.NoCall new = (at_next_call p old ≡ None) × (way p old ≤ most)

-- what a run came to that stopped after so many
abbrev pub stopped_at : ℕ → ℕ → Reach → Reach
stopped_at done most at = if nat_lt most done then reach.TooFar else at
