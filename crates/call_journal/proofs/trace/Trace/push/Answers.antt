use Rattle.std.proofs.Common.{sym, subst}
use Rattle.call_journal.specs.Counts.{AreTold}
use Rattle.call_journal.proofs.TraceLaws.{told}
use Rattle.call_journal.proofs.trace.Trace.push.Goals as goal

pub invariant_of-self-2 : goal.invariant_of-self-2
invariant_of-self-2 c =
    subst (λ trace. AreTold trace c.in-Some.tally) (sym c.in_ok-push.ensures.items)
    (told c.self.inside.records.items c.args.rec c.self.inside.tally c.in-Some.tally c.self.invariant c.in-Some.ensures)
