use Rattle.version_table.proofs.AloneLaws.{grants_come_alone}
use Rattle.version_table.proofs.laws.grants_come_alone.Goals as goal

pub returns : goal.returns
returns c = grants_come_alone
