use Rattle.std.proofs.Common.{◌≡◌, drop}
use Rattle.migrate_freeze.specs.Staying.{differ}
use Rattle.migrate_freeze.proofs.staying.differ.Given as goal

-- the rest tells whether all differ
abbrev pub invariant-loop-place : goal.invariant-loop-place
invariant-loop-place l = differ (drop l.place l.streams) ≡ differ l.streams
