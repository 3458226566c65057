use Rattle.std.proofs.Common.{◌≡◌, map, take}
use Rattle.stream_table.specs.Entries.{entries_in}
use Rattle.stream_table.specs.Streams.{came_as}
use Rattle.stream_table.proofs.arrival.all_merged.Given as goal

abbrev pub invariant-loop-item : goal.invariant-loop-item
invariant-loop-item l = l.came.items ≡ map (came_as (entries_in l.before.entries)) (take l.item-index l.carried)
