use Rattle.unix_calls.proofs.HistoryLaws.{sizes_stay_within}
use Rattle.unix_calls.proofs.laws.sizes_stay_within.Goals as goal

pub returns : goal.returns
returns c = sizes_stay_within
