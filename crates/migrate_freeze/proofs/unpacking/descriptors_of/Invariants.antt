use Rattle.std.proofs.Common.{◌≡◌, ◌++◌, drop}
use Rattle.migrate_freeze.specs.Arriving.{descriptors_of}
use Rattle.migrate_freeze.proofs.unpacking.descriptors_of.Given as goal

-- what is there and what comes yet
abbrev pub invariant-loop-fd : goal.invariant-loop-fd
invariant-loop-fd l = l.descriptors ++ descriptors_of (drop l.fd-index l.fds) l.streams ≡ descriptors_of l.fds l.streams
