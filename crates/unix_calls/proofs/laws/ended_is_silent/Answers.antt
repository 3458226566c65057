use Rattle.unix_calls.proofs.EndLaws.{ended_is_silent}
use Rattle.unix_calls.proofs.laws.ended_is_silent.Goals as goal

pub returns : goal.returns
returns c = ended_is_silent
