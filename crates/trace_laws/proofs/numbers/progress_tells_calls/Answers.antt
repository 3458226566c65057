use Rattle.trace_laws.proofs.IssueLaws.{progress_tells_calls}
use Rattle.trace_laws.proofs.numbers.progress_tells_calls.Goals as goal

pub returns : goal.returns
returns c = progress_tells_calls
