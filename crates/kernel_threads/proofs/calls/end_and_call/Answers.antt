use Rattle.kernel_threads.proofs.ActLaws.{acts_on}
use Rattle.kernel_threads.proofs.calls.end_and_call.Goals as goal

pub returns-clause-acts : goal.returns-clause-acts
returns-clause-acts g c = acts_on g.V.Book.origin g.V.Book.log g.V.Book.holds c.args.kernel c.args.value.now c.end_and_go_far-act.new.value c.call-called.new.value c.end_and_go_far-act.ensures.acts c.call-called.ensures
