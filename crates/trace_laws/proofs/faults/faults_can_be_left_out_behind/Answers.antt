use Rattle.trace_laws.proofs.FaultLaws.{faults_can_be_left_out_behind}
use Rattle.trace_laws.proofs.faults.faults_can_be_left_out_behind.Goals as goal

pub returns : goal.returns
returns c = faults_can_be_left_out_behind
