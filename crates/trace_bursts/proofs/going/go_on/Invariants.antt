use Rattle.std.proofs.Common.{◌≡◌, ◌≤◌, ◌+◌, ◌-◌, Some}
use Rattle.process_machine.specs.Runs.{ahead}
use Rattle.trace_bursts.proofs.going.go_on.Given as goal

-- the image did what isn't due any more
abbrev pub invariant-loop-due : goal.invariant-loop-due
invariant-loop-due l = (ahead l.program l.fn.image (l.count - l.due) ≡ Some l.image) × (l.due ≤ l.count) × (l.count - l.due + l.rest ≡ l.left)

abbrev pub decreases-loop-due : goal.decreases-loop-due
decreases-loop-due l = l.due
