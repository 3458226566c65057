use Rattle.server_facts.proofs.CallLaws.{step_keeps_calls}
use Rattle.server_facts.proofs.calls.step_keeps_calls.Goals as goal

pub returns : goal.returns
returns c = step_keeps_calls
