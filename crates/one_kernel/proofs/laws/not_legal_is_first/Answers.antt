use Rattle.one_kernel.proofs.VerdictLaws.{not_legal_is_first}
use Rattle.one_kernel.proofs.laws.not_legal_is_first.Goals as goal

pub returns : goal.returns
returns c = not_legal_is_first
