use Rattle.one_kernel.proofs.VerdictLaws.{legal_is_legal}
use Rattle.one_kernel.proofs.laws.legal_is_legal.Goals as goal

pub returns : goal.returns
returns c = legal_is_legal
