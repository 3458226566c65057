use Rattle.cluster_file.proofs.ClusterLaws.{each_is_read_once}
use Rattle.cluster_file.proofs.laws.refused_once.Goals as goal

pub returns : goal.returns
returns c = each_is_read_once
