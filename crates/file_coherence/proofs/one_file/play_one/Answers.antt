use Rattle.std.proofs.Common.{sym, ◌∙◌}
use Rattle.file_coherence.proofs.RunLaws.{next_done, next_left}
use Rattle.file_coherence.proofs.one_file.play_one.Goals as goal

pub returns-in-Some-clause-ok : goal.returns-in-Some-clause-ok
returns-in-Some-clause-ok c = next_done c.args.limits.now c.args.view.now c.in-Some.next c.args.step.now (sym c.in_ok-next.ensures.view ∙ c.in-Some.is)

pub returns-in_default-clause-ok : goal.returns-in_default-clause-ok
returns-in_default-clause-ok c = next_left c.args.limits.now c.args.view.now c.args.step.now (λ w e. c.in_default.not-Some w (c.in_ok-next.ensures.view ∙ e))
