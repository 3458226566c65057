use Rattle.std.proofs.Common.{sym, subst}
use Rattle.unix_run.specs.Among.{IsBounded}
use Rattle.one_kernel.proofs.ApplyLaws.{bounded_at}
use Rattle.one_kernel.proofs.applying.enter_called.Goals as goal

pub enter_next-requires-clause-bounded : goal.enter_next-requires-clause-bounded
enter_next-requires-clause-bounded c = subst IsBounded (sym c.in_ok-next.ensures) (bounded_at c.args.program.now c.at.result.now.image)
