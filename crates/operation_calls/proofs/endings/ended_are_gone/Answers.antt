use Rattle.operation_calls.proofs.GoneLaws.{ended_are_gone}
use Rattle.operation_calls.proofs.endings.ended_are_gone.Goals as goal

pub returns : goal.returns
returns c = ended_are_gone
