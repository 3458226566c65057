use Rattle.std.proofs.Common.{sym, ◌∙◌}
use Rattle.stream_table.specs.Entries.{entries_in}
use Rattle.stream_table.proofs.FoundLaws.{listed_holder}
use Rattle.stream_table.proofs.entries.leave.Goals as goal

pub change-requires : goal.change-requires
change-requires c = listed_holder (entries_in c.args.entries.now.entries) c.args.number.now c.in-Some.holder (sym c.holder_of.ensures ∙ c.in-Some.is)
