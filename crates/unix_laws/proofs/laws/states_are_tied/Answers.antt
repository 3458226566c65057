use Rattle.unix_laws.proofs.StreamLaws.{states_are_tied}
use Rattle.unix_laws.proofs.laws.states_are_tied.Goals as goal

pub returns : goal.returns
returns c = states_are_tied
