use Rattle.kernel_threads.specs.Steps.{Ran}
use Rattle.kernel_threads.proofs.rounds.run_rounds.Given as goal

abbrev pub invariant-loop : goal.invariant-loop
invariant-loop g l = Ran g.V.Book.origin g.V.Book.log g.V.Book.holds l.kernels l.fn.value l.value
