use Rattle.trace_laws.proofs.AppendLaws.{forward_rules_go_on}
use Rattle.trace_laws.proofs.appended.forward_rules_go_on.Goals as goal

pub returns : goal.returns
returns c = forward_rules_go_on
