use Rattle.cluster_file.proofs.LawfulLaws.{described_is_lawful}
use Rattle.cases.proofs.runs.judged_trace.Goals as goal

pub judge_run-requires-clause-lawful : goal.judge_run-requires-clause-lawful
judge_run-requires-clause-lawful c = described_is_lawful c.args.cluster.now c.in-Ok.description c.in-Ok.ensures.described

pub are_for_cause-requires : goal.are_for_cause-requires
are_for_cause-requires c = record { lawful = described_is_lawful c.args.cluster.now c.in-Ok.description c.in-Ok.ensures.described }
