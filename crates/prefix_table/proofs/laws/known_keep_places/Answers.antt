use Rattle.prefix_table.proofs.PrefixLaws.{keep_places}
use Rattle.prefix_table.proofs.laws.known_keep_places.Goals as goal

pub returns : goal.returns
returns c = keep_places
