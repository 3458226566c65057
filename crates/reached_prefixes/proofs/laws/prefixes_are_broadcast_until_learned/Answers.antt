use Rattle.reached_prefixes.proofs.KnownLaws.{asked_until}
use Rattle.reached_prefixes.proofs.laws.prefixes_are_broadcast_until_learned.Goals as goal

pub returns : goal.returns
returns g c = asked_until g.L.Link.faults g.L.Link.asked
