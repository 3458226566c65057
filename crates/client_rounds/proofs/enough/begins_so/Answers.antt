use Rattle.client_rounds.proofs.BeginLaws.{begins_so}
use Rattle.client_rounds.proofs.enough.begins_so.Goals as goal

pub returns : goal.returns
returns c = begins_so
