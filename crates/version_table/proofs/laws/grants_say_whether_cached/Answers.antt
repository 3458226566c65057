use Rattle.version_table.proofs.StampLaws.{grants_say}
use Rattle.version_table.proofs.laws.grants_say_whether_cached.Goals as goal

pub returns : goal.returns
returns c = grants_say
