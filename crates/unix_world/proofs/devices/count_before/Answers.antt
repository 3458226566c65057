use Rattle.std.proofs.Common.{Bool, nat_lt, rules}
use Rattle.std.proofs.lemmas.List.Sorted.{IsPartitionPoint-from_clause}
use Rattle.unix_calls.specs.declared.state.Device.{Device}
use Rattle.unix_world.specs.Places.{IsEarlier}
use Rattle.unix_world.proofs.KeyLaws.{key_seeks}
use Rattle.unix_world.proofs.SeekLaws.{parted, point_is}
use Rattle.unix_world.proofs.devices.count_before.Goals as goal

pub returns : goal.returns
returns c =
    let p : Device → Bool = λ d. nat_lt d.place c.args.place in
    let devices = c.args.devices.now in
    let point = IsPartitionPoint-from_clause p _ _ c.partition_point.ensures.partitioned (parted IsEarlier p devices (key_seeks (λ (d : Device). d.place) c.args.place).under c.requires) (λ a r q k. search rules) in
    point_is p devices c.partition_point.result c.partition_point.ensures.bound point
