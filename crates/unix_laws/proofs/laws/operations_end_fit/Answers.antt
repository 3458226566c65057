use Rattle.unix_laws.proofs.OperationLaws.{operations_end_fit}
use Rattle.unix_laws.proofs.laws.operations_end_fit.Goals as goal

pub returns : goal.returns
returns c = operations_end_fit
