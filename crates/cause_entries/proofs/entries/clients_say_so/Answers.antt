use Rattle.cause_entries.proofs.SaidLaws.{clients_say}
use Rattle.cause_entries.proofs.entries.clients_say_so.Goals as goal

pub returns : goal.returns
returns c = clients_say
