use Rattle.cluster_file.proofs.LawfulLaws.{described_is_lawful}
use Rattle.cluster_file.proofs.laws.described_is_lawful.Goals as goal

pub returns : goal.returns
returns c = described_is_lawful
