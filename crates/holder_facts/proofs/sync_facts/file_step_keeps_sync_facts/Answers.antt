use Rattle.holder_facts.proofs.SyncRest.{file_step_keeps_sync_facts}
use Rattle.holder_facts.proofs.sync_facts.file_step_keeps_sync_facts.Goals as goal

pub returns : goal.returns
returns c = file_step_keeps_sync_facts
