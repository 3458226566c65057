use Rattle.name_laws.proofs.OpenLaws.{opens_go}
use Rattle.name_laws.proofs.laws.opens_go.Goals as goal

pub returns : goal.returns
returns c = opens_go
