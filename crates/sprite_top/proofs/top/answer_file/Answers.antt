use Rattle.std.proofs.Common.{rules}
use Rattle.unix_calls.specs.Lawful.{Lawful}
use Rattle.cluster_file.proofs.LawfulLaws.{described_is_lawful}
use Rattle.sprite_top.proofs.TopLaws.{from_cluster}
use Rattle.sprite_top.proofs.top.answer_file.Goals as goal

pub answer_cluster-requires : goal.answer_cluster-requires
answer_cluster-requires g c = let lawful : Lawful c.in-Ok.description = described_is_lawful c.args.bytes.now c.in-Ok.description c.in-Ok.ensures.described in search (rules, lawful)

pub returns-in-Ok-clause-causes : goal.returns-in-Ok-clause-causes
returns-in-Ok-clause-causes g c = from_cluster c.args.print c.args.bytes.now c.in-Ok.description c.answer_cluster.result.0 c.in-Ok.ensures.described c.answer_cluster.ensures.causes
