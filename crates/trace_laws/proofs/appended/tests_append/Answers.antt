use Rattle.trace_laws.proofs.AppendLaws.{tests_append}
use Rattle.trace_laws.proofs.appended.tests_append.Goals as goal

pub returns : goal.returns
returns c = tests_append
