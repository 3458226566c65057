use Rattle.reached_laws.proofs.RecordLaws.{records_by_kernels}
use Rattle.reached_laws.proofs.laws.records_are_by_kernels.Goals as goal

pub returns : goal.returns
returns g c = records_by_kernels g.L.Link.faults g.L.Link.asked
