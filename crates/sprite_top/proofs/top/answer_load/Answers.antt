use Rattle.std.proofs.Common.{rules}
use Rattle.unix_calls.specs.Lawful.{Lawful}
use Rattle.cluster_file.proofs.LawfulLaws.{described_is_lawful}
use Rattle.workload_maker.specs.Workloads.{workload_text}
use Rattle.sprite_top.proofs.TopLaws.{from_workload}
use Rattle.sprite_top.proofs.top.answer_load.Goals as goal

pub answer_cluster-requires : goal.answer_cluster-requires
answer_cluster-requires g c = let lawful : Lawful c.in-Ok.description = described_is_lawful (workload_text c.args.count) c.in-Ok.description c.in-Ok.ensures in search (rules, lawful)

pub returns-in-Ok-clause-causes : goal.returns-in-Ok-clause-causes
returns-in-Ok-clause-causes g c = from_workload c.args.count c.in-Ok.description c.answer_cluster.result.0 c.in-Ok.ensures c.answer_cluster.ensures.causes
