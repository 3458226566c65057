use Rattle.cluster_file.proofs.LawfulLaws.{described_is_lawful}
use Rattle.worth_tests.proofs.bursts.first_in_cluster.Goals as goal

pub first_misjudged-requires : goal.first_misjudged-requires
first_misjudged-requires c = described_is_lawful c.args.file.now c.in-Ok.c c.in-Ok.ensures.described
