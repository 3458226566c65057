use Rattle.std.proofs.Common.{◌≡◌, drop, take}
use Rattle.unix_calls.specs.Tree.{walk, walk_from}
use Rattle.unix_world.proofs.tree.walk.Given as goal

abbrev pub invariant-loop-count : goal.invariant-loop-count
invariant-loop-count l = walk_from l.nodes (take l.count l.path) (drop l.count l.path) ≡ walk l.nodes l.path
