use Rattle.kernel_threads.proofs.ActLaws.{acts_on}
use Rattle.kernel_threads.proofs.calls.only_end_and_call.Goals as goal

pub returns : goal.returns
returns g c = acts_on g.V.Book.origin g.V.Book.log g.V.Book.holds c.args.kernel c.args.value.now c.end-more.new.value c.call-called.new.value c.end-more.ensures c.call-called.ensures
