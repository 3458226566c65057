use Rattle.trace_laws.proofs.FaultLaws.{steps_stand_apart}
use Rattle.trace_laws.proofs.faults.steps_stand_apart.Goals as goal

pub returns : goal.returns
returns c = steps_stand_apart
