use Rattle.kernel_threads.specs.Steps.{Ran}
use Rattle.kernel_threads.proofs.rounds.round.Given as goal

abbrev pub invariant-loop-before : goal.invariant-loop-before
invariant-loop-before g l = Ran g.V.Book.origin g.V.Book.log g.V.Book.holds l.kernels l.fn.value l.value
