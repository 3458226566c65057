use Rattle.std.proofs.Common.{◌≡◌, ◌++◌, drop}
use Rattle.migrate_freeze.specs.Packing.{fds_of}
use Rattle.migrate_freeze.proofs.packing.fds_of.Given as goal

-- what is there and what comes yet
abbrev pub invariant-loop-item : goal.invariant-loop-item
invariant-loop-item l = l.fds ++ fds_of (drop l.item-index l.streams) ≡ fds_of l.streams
