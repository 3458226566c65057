use Rattle.trace_laws.proofs.ProgressLaws.{progress_tells_numbers}
use Rattle.trace_laws.proofs.numbers.progress_tells_numbers.Goals as goal

pub returns : goal.returns
returns c = progress_tells_numbers
