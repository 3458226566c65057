use Rattle.std.proofs.Common.{rules}
use Rattle.std.proofs.lemmas.List.Sorted.{IsPartitionPoint-from_clause}
use Rattle.unix_world.specs.Paths.{MayPrecede}
use Rattle.unix_world.proofs.SeekLaws.{parted, point_is}
use Rattle.unix_world.proofs.TreeLaws.{names_up, up_to}
use Rattle.unix_world.proofs.tree.end_of.Goals as goal

pub returns-clause-count : goal.returns-clause-count
returns-clause-count c =
    let p = up_to c.args.directory.now in
    let nodes = c.args.nodes.now in
    let point = IsPartitionPoint-from_clause p _ _ c.partition_point.ensures.partitioned (parted MayPrecede p nodes (names_up c.args.directory.now) c.requires) (λ a r q k. search rules) in
    point_is p nodes c.partition_point.result c.partition_point.ensures.bound point
