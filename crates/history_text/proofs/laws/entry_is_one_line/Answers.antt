use Rattle.history_text.proofs.LineLaws.{one_line}
use Rattle.history_text.proofs.laws.entry_is_one_line.Goals as goal

pub returns : goal.returns
returns c = one_line
