use Rattle.unix_calls.proofs.HistoryLaws.{prefix_is_legal}
use Rattle.unix_calls.proofs.laws.prefix_is_legal.Goals as goal

pub returns : goal.returns
returns c = prefix_is_legal
