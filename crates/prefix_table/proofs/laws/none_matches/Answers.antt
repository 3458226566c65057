use Rattle.prefix_table.proofs.PrefixLaws.{none_matching}
use Rattle.prefix_table.proofs.laws.none_matches.Goals as goal

pub returns : goal.returns
returns c = none_matching
