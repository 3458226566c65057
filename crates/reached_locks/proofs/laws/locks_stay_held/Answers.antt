use Rattle.reached_locks.proofs.LockLaws.{locks_stay}
use Rattle.reached_locks.proofs.laws.locks_stay_held.Goals as goal

pub returns : goal.returns
returns g c = locks_stay g.L.Link.faults g.L.Link.asked
