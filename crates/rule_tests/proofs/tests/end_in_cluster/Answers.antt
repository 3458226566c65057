use Rattle.cluster_file.proofs.LawfulLaws.{described_is_lawful}
use Rattle.rule_tests.proofs.tests.end_in_cluster.Goals as goal

pub end_of-requires-clause-lawful : goal.end_of-requires-clause-lawful
end_of-requires-clause-lawful c = described_is_lawful c.args.file.now c.in-Ok.c c.in-Ok.ensures.described
