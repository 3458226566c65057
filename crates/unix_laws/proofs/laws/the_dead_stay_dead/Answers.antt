use Rattle.unix_laws.proofs.OnceLaws.{the_dead_stay_dead}
use Rattle.unix_laws.proofs.laws.the_dead_stay_dead.Goals as goal

pub returns : goal.returns
returns c = the_dead_stay_dead
