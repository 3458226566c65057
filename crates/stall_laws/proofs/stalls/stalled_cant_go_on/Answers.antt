use Rattle.stall_laws.proofs.StillLaws.{stalled_stands}
use Rattle.stall_laws.proofs.stalls.stalled_cant_go_on.Goals as goal

pub returns : goal.returns
returns c = stalled_stands
