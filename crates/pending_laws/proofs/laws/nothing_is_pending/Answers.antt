use Rattle.pending_laws.proofs.WaitLaws.{nothing_pending}
use Rattle.pending_laws.proofs.laws.nothing_is_pending.Goals as goal

pub returns : goal.returns
returns c = nothing_pending
