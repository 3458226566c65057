use Rattle.holder_facts.proofs.SyncRest.{begins_with_sync_facts}
use Rattle.holder_facts.proofs.sync_facts.begins_with_sync_facts.Goals as goal

pub returns : goal.returns
returns c = begins_with_sync_facts
