use Rattle.unix_calls.proofs.DomainLaws.{server_serves}
use Rattle.unix_calls.proofs.laws.server_serves.Goals as goal

pub returns : goal.returns
returns c = server_serves
