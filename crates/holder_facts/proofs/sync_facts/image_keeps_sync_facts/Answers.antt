use Rattle.holder_facts.proofs.SyncRest.{image_keeps_sync_facts}
use Rattle.holder_facts.proofs.sync_facts.image_keeps_sync_facts.Goals as goal

pub returns : goal.returns
returns c = image_keeps_sync_facts
