use Rattle.trace_laws.proofs.AppendLaws.{rules_go_on}
use Rattle.trace_laws.proofs.appended.rules_go_on.Goals as goal

pub returns : goal.returns
returns c = rules_go_on
