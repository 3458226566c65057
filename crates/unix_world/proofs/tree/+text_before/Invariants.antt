use Rattle.std.proofs.Common.{length}
use Rattle.unix_world.proofs.tree.+text_before.Given as goal

abbrev pub decreases-text_before : goal.decreases-text_before
decreases-text_before l = length l.one.now
