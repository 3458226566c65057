use Rattle.trace_laws.proofs.FaultLaws.{faults_stand_apart_on}
use Rattle.trace_laws.proofs.faults.faults_stand_apart_on.Goals as goal

pub returns : goal.returns
returns c = faults_stand_apart_on
