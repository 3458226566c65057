use Rattle.std.proofs.Common.{length}
use Rattle.unix_world.proofs.tree.+path_before.Given as goal

abbrev pub decreases-path_before : goal.decreases-path_before
decreases-path_before l = length l.one.now
