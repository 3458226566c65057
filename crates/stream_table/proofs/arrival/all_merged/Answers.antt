use Rattle.stream_table.specs.Entries.{entries_in, is_of}
use Rattle.stream_table.proofs.FoundLaws.{room_found}
use Rattle.stream_table.proofs.arrival.all_merged.Goals as goal

pub merged-requires-clause-here : goal.merged-requires-clause-here
merged-requires-clause-here c = room_found (is_of c.item-item.result.number) (entries_in c.args.before.now.entries) c.requires.room
