use Rattle.std.proofs.Common.{subst}
use Rattle.kernel_threads.specs.Steps.{Acts}
use Rattle.kernel_threads.proofs.ActLaws.{acts_on}
use Rattle.kernel_threads.proofs.rounds.turn.Goals as goal

pub returns-in-Began : goal.returns-in-Began
returns-in-Began g c =
    subst (λ k. Acts g.V.Book.origin g.V.Book.log g.V.Book.holds k c.args.value.now c.end.new.value) c.in-Some.ensures.value
    (acts_on g.V.Book.origin g.V.Book.log g.V.Book.holds c.in-Some.kernel c.args.value.now c.move_on.new.value c.end.new.value c.move_on.ensures.acts c.end.ensures)
