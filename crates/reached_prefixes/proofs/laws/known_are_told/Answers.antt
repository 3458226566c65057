use Rattle.reached_prefixes.proofs.KnownLaws.{known_so}
use Rattle.reached_prefixes.proofs.laws.known_are_told.Goals as goal

pub returns : goal.returns
returns g c = known_so g.L.Link.faults g.L.Link.asked
