use Rattle.name_laws.proofs.BootLaws.{cluster_begins}
use Rattle.name_laws.proofs.laws.cluster_begins.Goals as goal

pub returns : goal.returns
returns c = cluster_begins
