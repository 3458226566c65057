use Rattle.std.proofs.Common.{◌≡◌, drop}
use Rattle.write_sharing.specs.Kept.{shared_from, is_shared_in}
use Rattle.write_sharing.proofs.opens.is_write_shared.Given as goal

-- no writer so far
abbrev pub invariant-loop-opened : goal.invariant-loop-opened
invariant-loop-opened l = shared_from l.streams (drop l.opened-index l.streams) ≡ is_shared_in l.streams
