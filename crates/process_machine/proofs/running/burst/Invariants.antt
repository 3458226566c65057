use Rattle.std.proofs.Common.{◌≡◌, Some}
use Rattle.process_machine.specs.Runs.{ahead}
use Rattle.process_machine.proofs.running.burst.Given as goal

abbrev pub invariant-loop-count : goal.invariant-loop-count
invariant-loop-count l = ahead l.program l.fn.image l.count ≡ Some l.image
