use Rattle.trace_laws.proofs.ProgressLaws.{once_tells_numbers}
use Rattle.trace_laws.proofs.numbers.once_tells_numbers.Goals as goal

pub returns : goal.returns
returns c = once_tells_numbers
