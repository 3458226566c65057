use Rattle.cluster_file.proofs.LawfulLaws.{described_is_lawful}
use Rattle.cases.proofs.chances.run.Goals as goal

pub run_described-requires : goal.run_described-requires
run_described-requires c = described_is_lawful c.as_slice.result.now c.in-Ok.description c.in-Ok.ensures.described
