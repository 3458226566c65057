use Rattle.std.proofs.Common.{◌∙◌}
use Rattle.stream_table.proofs.MapLaws.{all_roomy}
use Rattle.stream_table.proofs.entries.have_room.Goals as goal

pub returns : goal.returns
returns c = c.are_roomy.ensures ∙ all_roomy c.args.entries.now.entries
