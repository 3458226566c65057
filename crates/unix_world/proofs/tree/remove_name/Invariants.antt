use Rattle.std.proofs.Common.{length}
use Rattle.unix_world.proofs.TreeLaws.{Goes}
use Rattle.unix_world.proofs.tree.remove_name.Given as goal

abbrev pub invariant-loop-nodes : goal.invariant-loop-nodes
invariant-loop-nodes l = Goes l.path l.at l.fn.nodes l.nodes

abbrev pub decreases-loop-nodes : goal.decreases-loop-nodes
decreases-loop-nodes l = length l.nodes
