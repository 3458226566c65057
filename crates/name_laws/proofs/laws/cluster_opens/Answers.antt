use Rattle.name_laws.proofs.BootLaws.{cluster_opens}
use Rattle.name_laws.proofs.laws.cluster_opens.Goals as goal

pub returns : goal.returns
returns c = cluster_opens
