use Rattle.std.proofs.Common.{◌∙◌}
use Rattle.stream_table.proofs.MapLaws.{any_refers}
use Rattle.stream_table.proofs.owners.is_referred.Goals as goal

pub returns : goal.returns
returns c = c.any_refers.ensures ∙ any_refers c.args.owners.now.entries c.args.number.now
