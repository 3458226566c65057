use Rattle.cause_entries.proofs.ServerCauses.{servers_call}
use Rattle.cause_entries.proofs.entries.servers_call_none_unreachable.Goals as goal

pub returns : goal.returns
returns c = servers_call
