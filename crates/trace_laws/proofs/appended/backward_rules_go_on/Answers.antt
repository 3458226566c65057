use Rattle.trace_laws.proofs.AppendLaws.{backward_rules_go_on}
use Rattle.trace_laws.proofs.appended.backward_rules_go_on.Goals as goal

pub returns : goal.returns
returns c = backward_rules_go_on
