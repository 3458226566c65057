use Rattle.operation_calls.proofs.AskLaws.{write_backs_go_so}
use Rattle.operation_calls.proofs.laws.write_backs_go_so.Goals as goal

pub returns : goal.returns
returns c = write_backs_go_so
