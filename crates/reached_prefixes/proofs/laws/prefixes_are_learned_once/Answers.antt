use Rattle.reached_prefixes.proofs.KnownLaws.{learned_once}
use Rattle.reached_prefixes.proofs.laws.prefixes_are_learned_once.Goals as goal

pub returns : goal.returns
returns g c = learned_once g.L.Link.faults g.L.Link.asked
