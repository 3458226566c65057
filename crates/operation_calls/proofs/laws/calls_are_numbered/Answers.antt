use Rattle.operation_calls.proofs.AskLaws.{calls_are_numbered}
use Rattle.operation_calls.proofs.laws.calls_are_numbered.Goals as goal

pub returns : goal.returns
returns c = calls_are_numbered
