use Rattle.server_names.proofs.FoundLaws.{removed_gone}
use Rattle.server_names.proofs.laws.removed_is_gone.Goals as goal

pub returns : goal.returns
returns c = removed_gone
