use Rattle.trace_laws.proofs.FaultLaws.{formed_without_faults}
use Rattle.trace_laws.proofs.faults.formed_without_faults.Goals as goal

pub returns : goal.returns
returns c = formed_without_faults
