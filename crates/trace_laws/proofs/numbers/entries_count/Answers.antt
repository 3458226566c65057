use Rattle.trace_laws.proofs.EntryLaws.{entries_count}
use Rattle.trace_laws.proofs.numbers.entries_count.Goals as goal

pub returns : goal.returns
returns c = entries_count
