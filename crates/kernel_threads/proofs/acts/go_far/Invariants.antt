use Rattle.kernel_threads.specs.Steps.{Acts}
use Rattle.kernel_threads.proofs.acts.go_far.Given as goal

abbrev pub invariant-loop : goal.invariant-loop
invariant-loop g l = Acts g.V.Book.origin g.V.Book.log g.V.Book.holds l.kernel l.fn.value l.value
