use Rattle.std.proofs.Common.{◌≡◌}
use Rattle.kernel_threads.proofs.calls.busy_among.Given as goal

abbrev pub invariant-loop-before : goal.invariant-loop-before
invariant-loop-before g l = l.value ≡ l.fn.value
