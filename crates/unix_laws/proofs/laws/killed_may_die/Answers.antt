use Rattle.unix_laws.proofs.EndLaws.{killed_may_die}
use Rattle.unix_laws.proofs.laws.killed_may_die.Goals as goal

pub returns : goal.returns
returns c = killed_may_die
