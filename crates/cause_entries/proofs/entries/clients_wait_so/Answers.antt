use Rattle.cause_entries.proofs.WaitLaws.{clients_wait}
use Rattle.cause_entries.proofs.entries.clients_wait_so.Goals as goal

pub returns : goal.returns
returns c = clients_wait
