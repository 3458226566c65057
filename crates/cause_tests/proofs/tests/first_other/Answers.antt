use Rattle.cluster_file.proofs.LawfulLaws.{described_is_lawful}
use Rattle.cause_tests.proofs.tests.first_other.Goals as goal

pub first_of_all-requires : goal.first_of_all-requires
first_of_all-requires c = record { lawful = described_is_lawful c.args.file.now c.in-Ok.cluster c.in-Ok.ensures.described }
