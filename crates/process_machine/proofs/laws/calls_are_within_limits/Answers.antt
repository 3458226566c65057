use Rattle.process_machine.proofs.LimitLaws.{call_within_limits, next_within_limits}
use Rattle.process_machine.proofs.laws.calls_are_within_limits.Goals as goal

pub returns-clause-calls : goal.returns-clause-calls
returns-clause-calls c = call_within_limits

pub returns-clause-next : goal.returns-clause-next
returns-clause-next c = next_within_limits
