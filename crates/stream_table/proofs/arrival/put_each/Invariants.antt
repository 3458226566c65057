use Rattle.std.proofs.Common.{◌≡◌, ◌≤◌, drop, length}
use Rattle.indexmap.specs.IndexMap.{spare}
use Rattle.stream_table.specs.Entries.{entries_in}
use Rattle.stream_table.specs.Streams.{put_all}
use Rattle.stream_table.proofs.arrival.put_each.Given as goal

abbrev pub invariant-loop-item : goal.invariant-loop-item
invariant-loop-item l = record {
  put : put_all (entries_in l.entries.entries) (drop l.item-index l.came) ≡ put_all (entries_in l.fn.entries.entries) l.came;
  room : length (drop l.item-index l.came) ≤ spare l.entries;
}
