use Rattle.cluster_file.proofs.LawfulLaws.{described_is_lawful}
use Rattle.worth_tests.proofs.kills.other_in_cluster.Goals as goal

pub first_other-requires : goal.first_other-requires
first_other-requires c = described_is_lawful c.args.file.now c.in-Ok.c c.in-Ok.ensures.described
