use Rattle.server_facts.proofs.BusyLaws.{step_keeps_busy}
use Rattle.server_facts.proofs.calls.step_keeps_busy.Goals as goal

pub returns : goal.returns
returns c = step_keeps_busy
