use Rattle.unix_calls.proofs.AfterLaws.{death_is_of_killed}
use Rattle.unix_calls.proofs.laws.death_is_of_killed.Goals as goal

pub returns : goal.returns
returns c = death_is_of_killed
