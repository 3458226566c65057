use Rattle.unix_laws.proofs.OnceLaws.{asks_are_answered_once}
use Rattle.unix_laws.proofs.laws.asks_are_answered_once.Goals as goal

pub returns : goal.returns
returns c = asks_are_answered_once
