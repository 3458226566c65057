use Rattle.std.proofs.Common.{◌≡◌, ◌≤◌, ◌+◌, ◌-◌, Some}
use Rattle.process_machine.specs.Runs.{ahead}
use Rattle.one_kernel.proofs.reach.go_to_call.Given as goal

abbrev pub invariant-loop-done : goal.invariant-loop-done
invariant-loop-done l = (ahead l.program l.fn.image l.done ≡ Some l.image) × (l.done ≤ l.most + 10000)

abbrev pub decreases-loop-done : goal.decreases-loop-done
decreases-loop-done l = l.most + 10000 - l.done
