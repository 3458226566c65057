use Rattle.unix_laws.proofs.NameLaws.{things_have_one_name}
use Rattle.unix_laws.proofs.laws.things_have_one_name.Goals as goal

pub returns : goal.returns
returns c = things_have_one_name
