use Rattle.cause_entries.proofs.CauseLaws.{clients_call}
use Rattle.cause_entries.proofs.entries.clients_call_unreachable_so.Goals as goal

pub returns : goal.returns
returns c = clients_call
