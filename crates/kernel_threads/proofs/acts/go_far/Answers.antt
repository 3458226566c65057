use Rattle.kernel_threads.proofs.ActLaws.{acts_on}
use Rattle.kernel_threads.proofs.acts.go_far.Goals as goal

pub returns-in-Over-clause-acts : goal.returns-in-Over-clause-acts
returns-in-Over-clause-acts g c = acts_on g.V.Book.origin g.V.Book.log g.V.Book.holds c.args.kernel c.args.value.now c.loop.value c.first_step.new.value c.loop.invariant c.first_step.ensures.acts

pub returns-in-Nothing-clause-acts : goal.returns-in-Nothing-clause-acts
returns-in-Nothing-clause-acts g c =
    acts_on g.V.Book.origin g.V.Book.log g.V.Book.holds c.args.kernel c.args.value.now c.first_step.new.value c.begin.new.value
    (acts_on g.V.Book.origin g.V.Book.log g.V.Book.holds c.args.kernel c.args.value.now c.loop.value c.first_step.new.value c.loop.invariant c.first_step.ensures.acts) c.begin.ensures.acts

pub loop-preserved : goal.loop-preserved
loop-preserved g c = acts_on g.V.Book.origin g.V.Book.log g.V.Book.holds c.args.kernel c.args.value.now c.loop.value c.first_step.new.value c.loop.invariant c.first_step.ensures.acts
