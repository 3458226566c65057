use Rattle.home_runs.proofs.FirstLaws.{boots_with_first}
use Rattle.home_runs.proofs.laws.boots_with_first.Goals as goal

pub returns : goal.returns
returns c = boots_with_first
