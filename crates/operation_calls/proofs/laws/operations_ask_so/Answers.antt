use Rattle.operation_calls.proofs.AskLaws.{operations_ask_so}
use Rattle.operation_calls.proofs.laws.operations_ask_so.Goals as goal

pub returns : goal.returns
returns c = operations_ask_so
