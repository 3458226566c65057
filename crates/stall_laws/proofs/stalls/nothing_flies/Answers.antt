use Rattle.stall_laws.proofs.StillLaws.{flies_none}
use Rattle.stall_laws.proofs.stalls.nothing_flies.Goals as goal

pub returns : goal.returns
returns c = flies_none
