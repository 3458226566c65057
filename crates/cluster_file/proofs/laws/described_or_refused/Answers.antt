use Rattle.cluster_file.proofs.ClusterLaws.{each_is_read}
use Rattle.cluster_file.proofs.laws.described_or_refused.Goals as goal

pub returns : goal.returns
returns c = each_is_read
