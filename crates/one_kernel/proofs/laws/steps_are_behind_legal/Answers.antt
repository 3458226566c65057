use Rattle.one_kernel.proofs.VerdictLaws.{steps_are_behind_legal}
use Rattle.one_kernel.proofs.laws.steps_are_behind_legal.Goals as goal

pub returns : goal.returns
returns c = steps_are_behind_legal
