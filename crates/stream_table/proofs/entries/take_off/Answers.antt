use Rattle.std.proofs.Common.{ap, ◌∙◌}
use Rattle.stream_table.specs.Entries.{entries_in}
use Rattle.stream_table.proofs.MapLaws.{entry_dropped}
use Rattle.stream_table.proofs.entries.take_off.Goals as goal

pub returns : goal.returns
returns c = ap entries_in c.shift_remove.ensures.entries ∙ entry_dropped c.args.entries.now.entries c.args.number.now c.requires
