use Rattle.prefix_table.proofs.PrefixLaws.{tested}
use Rattle.prefix_table.proofs.prefixes.is_of.Goals as goal

pub returns : goal.returns
returns c = tested c.args.prefix.now c.args.domain.now c.same.result c.same.ensures
