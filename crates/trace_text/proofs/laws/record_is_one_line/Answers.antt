use Rattle.trace_text.proofs.LineLaws.{one_line}
use Rattle.trace_text.proofs.laws.record_is_one_line.Goals as goal

pub returns : goal.returns
returns c = one_line
