use Rattle.std.proofs.Common.{rules}
use Rattle.std.proofs.lemmas.List.Sorted.{IsPartitionPoint-from_clause}
use Rattle.unix_world.specs.Paths.{MayPrecede}
use Rattle.unix_world.proofs.SeekLaws.{parted, point_is}
use Rattle.unix_world.proofs.TreeLaws.{names_stay, stays}
use Rattle.unix_world.proofs.tree.place_for.Goals as goal

pub returns-clause-count : goal.returns-clause-count
returns-clause-count c =
    let p = stays c.args.path.now in
    let nodes = c.args.nodes.now in
    let point = IsPartitionPoint-from_clause p _ _ c.partition_point.ensures.partitioned (parted MayPrecede p nodes (names_stay c.args.path.now) c.requires) (λ a r q k. search rules) in
    point_is p nodes c.partition_point.result c.partition_point.ensures.bound point
