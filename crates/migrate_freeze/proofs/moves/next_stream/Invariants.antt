use Rattle.std.proofs.Common.{◌≡◌, None, drop}
use Rattle.migrate_freeze.specs.Moves.{next_from}
use Rattle.migrate_freeze.proofs.moves.next_stream.Given as goal

-- the least so far
abbrev pub invariant-loop-item : goal.invariant-loop-item
invariant-loop-item l = next_from l.moved l.least (drop l.item-index l.streams) ≡ next_from l.moved None l.streams
