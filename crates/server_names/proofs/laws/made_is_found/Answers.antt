use Rattle.server_names.proofs.FoundLaws.{made_found}
use Rattle.server_names.proofs.laws.made_is_found.Goals as goal

pub returns : goal.returns
returns c = made_found
