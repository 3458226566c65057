use Rattle.cluster_file.proofs.LawfulLaws.{described_is_lawful}
use Rattle.rule_tests.proofs.writes.full_here.Goals as goal

pub drops_full-requires : goal.drops_full-requires
drops_full-requires c = described_is_lawful c.args.file.now c.in-Ok.c c.in-Ok.ensures.described
