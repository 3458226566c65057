use Rattle.prefix_table.proofs.PrefixLaws.{longest_is}
use Rattle.prefix_table.proofs.laws.longest_is_longest.Goals as goal

pub returns : goal.returns
returns c = longest_is
