use Rattle.cause_judge.proofs.CauseLaws.{all_keep}
use Rattle.cause_judge.proofs.causes.are_for_cause.Goals as goal

pub loop-place-init : goal.loop-place-init
loop-place-init c = all_keep c.args.c.now c.args.trace.now
