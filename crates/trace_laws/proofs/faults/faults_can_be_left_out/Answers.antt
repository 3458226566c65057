use Rattle.trace_laws.proofs.FaultLaws.{faults_can_be_left_out}
use Rattle.trace_laws.proofs.faults.faults_can_be_left_out.Goals as goal

pub returns : goal.returns
returns c = faults_can_be_left_out
