use Rattle.name_laws.proofs.OpenLaws.{waiters_go}
use Rattle.name_laws.proofs.laws.waiters_go.Goals as goal

pub returns : goal.returns
returns c = waiters_go
