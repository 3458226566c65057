use Rattle.kernel_threads.proofs.ActLaws.{acts_adds, acts_on}
use Rattle.kernel_threads.proofs.acts.step.Goals as goal

pub returns-clause-acts : goal.returns-clause-acts
returns-clause-acts g c =
    acts_on g.V.Book.origin g.V.Book.log g.V.Book.holds c.args.kernel c.args.value.now c.step.new.self c.go_on.new.value (acts_adds g.V.Book.origin g.V.Book.log g.V.Book.holds c.args.kernel c.args.value.now c.step.new.self c.in-Ok.ensures.ok) c.go_on.ensures.acts
