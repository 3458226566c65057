use Rattle.client_facts.proofs.QuietLaws.{quiet_stays}
use Rattle.client_facts.proofs.rounds.quiet_stays.Goals as goal

pub returns : goal.returns
returns c = quiet_stays
