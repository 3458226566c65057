use Rattle.cluster_file.proofs.LawfulLaws.{described_is_lawful}
use Rattle.rule_tests.proofs.writes.others_here.Goals as goal

pub others-requires : goal.others-requires
others-requires c = described_is_lawful c.args.file.now c.in-Ok.c c.in-Ok.ensures.described
