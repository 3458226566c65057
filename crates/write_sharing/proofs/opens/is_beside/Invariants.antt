use Rattle.std.proofs.Common.{◌≡◌, drop}
use Rattle.write_sharing.specs.Kept.{is_beside}
use Rattle.write_sharing.proofs.opens.is_beside.Given as goal

-- those that are left decide
abbrev pub invariant-loop-opened : goal.invariant-loop-opened
invariant-loop-opened l = is_beside (drop l.opened-index l.streams) l.kernel ≡ is_beside l.streams l.kernel
