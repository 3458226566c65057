use Rattle.server_facts.proofs.SharedLaws.{step_keeps_shared}
use Rattle.server_facts.proofs.shared.step_keeps_shared.Goals as goal

pub returns : goal.returns
returns c = step_keeps_shared
