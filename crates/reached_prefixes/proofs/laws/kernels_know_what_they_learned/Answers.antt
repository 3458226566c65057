use Rattle.reached_prefixes.proofs.KnownLaws.{kernels_know}
use Rattle.reached_prefixes.proofs.laws.kernels_know_what_they_learned.Goals as goal

pub returns : goal.returns
returns g c = kernels_know g.L.Link.faults g.L.Link.asked
