use Rattle.std.proofs.Common.{◌≡◌}
use Rattle.sprite_cluster.specs.Finishing.{are_busy}
use Rattle.sprite_cluster.proofs.finishing.are_busy.Given as goal

abbrev pub invariant-loop-before : goal.invariant-loop-before
invariant-loop-before g l = l.busy ≡ are_busy l.before l.wire.machine l.state
