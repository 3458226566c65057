use Rattle.unix_laws.proofs.ClientLaws.{processes_are_of_clients}
use Rattle.unix_laws.proofs.laws.processes_are_of_clients.Goals as goal

pub returns : goal.returns
returns c = processes_are_of_clients
