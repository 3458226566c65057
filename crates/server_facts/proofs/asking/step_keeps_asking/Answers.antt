use Rattle.server_facts.proofs.AskingLaws.{step_keeps_asking}
use Rattle.server_facts.proofs.asking.step_keeps_asking.Goals as goal

pub returns : goal.returns
returns c = step_keeps_asking
