use Rattle.name_laws.proofs.OpenLaws.{makes_go}
use Rattle.name_laws.proofs.laws.makes_go.Goals as goal

pub returns : goal.returns
returns c = makes_go
