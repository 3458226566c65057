use Rattle.name_laws.proofs.NameLaws.{names_go}
use Rattle.name_laws.proofs.laws.names_go.Goals as goal

pub returns : goal.returns
returns c = names_go
