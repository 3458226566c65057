use Rattle.server_facts.proofs.UnlinkedLaws.{step_keeps_unlinked}
use Rattle.server_facts.proofs.unlinked.step_keeps_unlinked.Goals as goal

pub returns : goal.returns
returns c = step_keeps_unlinked
