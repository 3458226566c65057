use Rattle.holder_facts.proofs.SyncKernel.{step_keeps_sync_facts}
use Rattle.holder_facts.proofs.sync_facts.step_keeps_sync_facts.Goals as goal

pub returns : goal.returns
returns c = step_keeps_sync_facts
