use Rattle.kernel_threads.proofs.ActLaws.{acts_on}
use Rattle.kernel_threads.proofs.acts.end_and_go_far.Goals as goal

pub returns-clause-acts : goal.returns-clause-acts
returns-clause-acts g c = acts_on g.V.Book.origin g.V.Book.log g.V.Book.holds c.args.kernel c.args.value.now c.end.new.value c.go_far.new.value c.end.ensures c.go_far.ensures.acts
